-- Worked cases of loading: the refusals of a dump, "1, 10, 9", and a unit that they leave as it was.
use Rattle.std.specs.Prelude.{◌≡◌, [], ◌∷◌, replicate}
use Rattle.std.proofs.Math.Path.{refl}
use Rattle.unit_head.specs.Head.{DisplayUnit}
use Rattle.unit_loading.specs.Loading.{LoadValues, load_end, all_proper, unit_load}

module _ (u : DisplayUnit) where
  -- a word with an unused bit set, in a dump that is too short, of a size that no buffer has, and in one of the right length
  pub record LoadCases : Type 0 where
    pub size_first : unit_load u 5 (0x0800 ∷ []) ≡ load_end u (LoadValues.refused 1)
    pub length_next : unit_load u 4096 (0x0800 ∷ []) ≡ load_end u (LoadValues.refused 10)
    pub bit_last : unit_load u 4096 (replicate 4096 0x0800) ≡ load_end u (LoadValues.refused 9)

  pub load_cases : LoadCases
  unfolding unit_load all_proper
  load_cases = record { size_first = refl; length_next = refl; bit_last = refl }
