-- A listing that listens, at the end of the input.
use Prim.Native.Nat.{ℕ, ◌≤◌}
use mathlib.Core.Path.{◌≡◌, sym, subst}
use mathlib.Core.List.{List, [], ◌++◌}
use native.Mathlib.Omega.{arith}
use lib.ListN.{length, take}
use Rattle.text_put.specs.Text.{end_of}
use Rattle.text_put.proofs.Laws.{Puts, put_whole}
use Rattle.text_stream.specs.Listen.{Closes}
use Rattle.record_format.specs.Records.{header_of, cut_of}
use Rattle.record_format.specs.declared.Header.{Header}
use Rattle.record_format.specs.declared.Header.TheVariants.{Record, Cut, End}
use Rattle.record_lines.proofs.Short.{refused_short}
use Rattle.ground_refusals.specs.Refusals.{refusal_number}
use Rattle.record_intake.specs.Intake.{open_at}
use Rattle.record_listing.specs.Listing.{PrintedFor, last_line}
use Rattle.record_listing.specs.Pieces.{closing_of}
use Rattle.record_listing.proofs.Stream.{standing_closed}
use Rattle.record_stream.specs.Stream.{Listed}
use Rattle.record_stream.specs.declared.Lister.{Lister}

-- what is put at the end of the input finds room
last_short : (number : ℕ) (h : Header) → length (last_line number h) ≤ 128
last_short number (Record n kind) = refused_short number (refusal_number (cut_of kind))
last_short number Cut = refused_short number 6
last_short number End = omega arith

pub lister_closes : (l : Lister) (out out' : List ℕ) (end : ℕ) → length out ≡ 32768 → length out' ≡ 32768 → Puts out 0 (closing_of l.at l.kept) end out'
    → Closes (λ (l : Lister). Listed l.at l.kept) PrintedFor l end out'
unfolding end_of
lister_closes l out out' end room size puts =
    let short = last_short l.at.number (header_of (take (open_at l.at.seen l.kept) l.kept)) in
    record {
      ends = omega (arith, puts.0);
      whole =
          λ input text x.
          let put = put_whole out 0 (closing_of l.at l.kept) end out' (omega arith) puts in
          subst (λ (last : List ℕ). PrintedFor input (text ++ last)) (sym put.2) (standing_closed 1 [] input text l.kept l.at x.standing);
    }
