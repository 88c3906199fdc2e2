-- What a step draws stands at addresses of the buffer, and so does what a sight falls on; the beam behind it is within ten bits. Assumes nothing.
use Rattle.std.specs.Prelude.{None, Option, Some}
use Prim.Native.Nat.{ℕ, ◌+◌, ◌<◌}
use mathlib.Core.Bool.{Bool, true, false, cond}
use mathlib.Core.List.{List, [], ◌∷◌, ◌++◌}
use Rattle.ground_setup.specs.Setup.{size_of, wrap_of, ahead_of}
use Rattle.ground_setup.specs.declared.Size.{Size}
use Rattle.ground_setup.proofs.Laws.{below}
use Rattle.unit_beam.specs.declared.Beam.{Beam}
use Rattle.unit_beam.specs.declared.CharacterSize.{CharacterSize}
use Rattle.unit_motion.specs.Codes.{draws, after_code}
use Rattle.unit_motion.specs.Motion.{off_of}
use Rattle.unit_motion.specs.declared.Trace.{Trace}
use Rattle.unit_motion.specs.declared.Trace.TheVariants as trace
use Rattle.unit_motion.specs.declared.Motion.{Motion}
use Rattle.unit_motion.specs.declared.Motion.TheVariants.{Still, To, Codes}
use Rattle.unit_drawing.specs.Drawing.{Stroke, stroke, character_at, cursor_at, trace_strokes, has_cursor, code_strokes, codes_strokes, strokes_of, item_address, falls, left, hit_in}
use Rattle.unit_drawing.specs.declared.Hit.{Hit}
use Rattle.ground_words.proofs.Laws.{either_way}
use Rattle.theorem_wellmade.specs.WellMade.{BeamMade}
use Rattle.theorem_wellmade.proofs.Beams.{MotionMade, after_code_made}

module _ (s : Size) where
  abbrev StrokesMade : List Stroke → Type 0
  StrokesMade [] = Unit {0}
  StrokesMade (k ∷ ks) = (item_address k.item < size_of s) × BeamMade k.end × StrokesMade ks

  joined_made : (ks ls : List Stroke) → StrokesMade ks → StrokesMade ls → StrokesMade (ks ++ ls)
  joined_made [] ls h l = l
  joined_made (k ∷ ks) ls h l = (h.0, h.1, joined_made ks ls h.2 l)

  trace_made : (t : Trace) (beam to : Beam) (off : Bool) (at : ℕ) → BeamMade to → at < size_of s → StrokesMade (trace_strokes t beam to off at)
  trace_made trace.Blanked beam to off at m h = tt
  trace_made trace.Point beam to off at m h = (h, m, tt)
  trace_made trace.Vector beam to off at m h = (h, m, tt)

  shown_made : (shown : Bool) (k : Stroke) → item_address k.item < size_of s → BeamMade k.end → StrokesMade (cond shown (k ∷ []) [])
  shown_made true k h m = (h, m, tt)
  shown_made false k h m = tt

  code_made : (size : CharacterSize) (code : ℕ) (marked : Bool) (beam : Beam) (at : ℕ) → BeamMade beam → at < size_of s → StrokesMade (code_strokes size code marked beam at)
  unfolding code_strokes
  code_made size code marked beam at m h =
      let e = after_code_made size code beam m in
      let character = stroke (character_at size code beam at) (after_code size code beam) in
      let cursor = stroke (cursor_at size code beam at) (after_code size code beam) in
      joined_made (cond (draws code) (character ∷ []) []) (cond (has_cursor marked code) (cursor ∷ []) []) (shown_made (draws code) character h e)
      (shown_made (has_cursor marked code) cursor h e)

  pub strokes_made : (m : Motion) (beam : Beam) (c0 c1 : Bool) (at : ℕ) → MotionMade m → BeamMade beam → StrokesMade (strokes_of m beam c0 c1 s at)
  unfolding strokes_of codes_strokes
  strokes_made Still beam c0 c1 at h b = tt
  strokes_made (To k t to) beam c0 c1 at h b = trace_made t beam to (off_of k) (wrap_of s at) h (below s at)
  strokes_made (Codes z x y) beam c0 c1 at h b =
      let then = ahead_of s at 1 in
      let beam' = after_code z x beam in
      joined_made (code_strokes z x c0 beam (wrap_of s at)) (code_strokes z y c1 beam' then) (code_made z x c0 beam (wrap_of s at) b (below s at))
      (code_made z y c1 beam' then (after_code_made z x beam b) (below s (wrap_of s at + 1)))

  abbrev pub HitMade : Option Hit → Type 0
  HitMade None = Unit {0}
  HitMade (Some h) = (h.at < size_of s) × BeamMade h.end

  pub hit_made : (sight : ℕ) (ks : List Stroke) → StrokesMade ks → HitMade (hit_in sight ks)
  unfolding hit_in
  hit_made sight [] h = tt
  hit_made sight (k ∷ ks) h = either_way HitMade (falls sight k.item) (h.0, h.1) (hit_made (left sight k.item) ks h.2)
