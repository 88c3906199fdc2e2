-- How far one read more brings the reading of an image, and that the record finds room in its buffer.
use Prim.Native.Nat.{ℕ, ◌+◌, ◌≤◌, ◌<◌}
use mathlib.Core.Path.{◌≡◌, refl, sym, subst}
use mathlib.Core.Logic.{inl, inr}
use mathlib.Core.List.{List}
use native.Mathlib.Decide.{dec_lt}
use native.Mathlib.Omega.{arith}
use borrow.Author.Tests.{lt-ltb, le-ltb}
use lib.ListN.{length, length-take, take}
use Rattle.text_input.specs.Input.{CameWithin}
use Rattle.text_input.specs.declared.Came.{Came}
use Rattle.text_input.specs.declared.Came.TheVariants.{Bytes, End, Failed}
use Rattle.text_put.proofs.Laws.{Puts, put_whole}
use Rattle.record_make.specs.Making.{record_of}
use Rattle.wrap.specs.Wrap.{read_on, ReadWithin, ReadFor}
use Rattle.wrap.specs.declared.Asked.{Asked}
use Rattle.wrap.specs.declared.Complaint.{Complaint}
use Rattle.std.specs.Prelude.{Result, Ok, Err}
use Rattle.std.specs.declared.ops.ControlFlow.{ControlFlow}
use Rattle.std.specs.declared.ops.ControlFlow.TheVariants.{Break, Continue}

-- more bytes than before, and room behind them; or what an image can come to
abbrev pub Further : ℕ → ℕ → ControlFlow (Result ℕ Complaint) ℕ → Type 0
Further room end (Continue next) = (end < next) × (next < room)
Further room end (Break found) = ReadWithin room found

pub further : (room end : ℕ) (came : Came) (part : ℕ) → end < room → CameWithin part came
    → Further room end (read_on room end came)
further room end (Bytes count) part h w =
    elim (dec_lt (end + count) room) [
      | yes fits ↦ rw (lt-ltb (end + count) room fits) (omega arith)
      | no full ↦ rw (le-ltb (end + count) room (omega arith)) (inl refl)
    ]
further room end End part h w = h
further room end Failed part h w = inr refl

-- an image leaves room in the space, and a record has ten bytes more than its image: it stands whole at the front of its buffer
abbrev LeavesRoom : Result (Asked × ℕ) Complaint → Type 0
LeavesRoom (Ok wanted) = wanted.1 < 65536
LeavesRoom (Err complaint) = complaint ≡ complaint

pub image_leaves_room : (asks : Result Asked Complaint) (wanted : Asked × ℕ) → ReadFor asks 65536 (Ok wanted) → wanted.1 < 65536
image_leaves_room (Ok asked) wanted read = read.1
image_leaves_room (Err complaint) wanted read = subst LeavesRoom (sym read) refl

pub record_stands : (out out' space : List ℕ) (asked : Asked) (count end : ℕ) → length out ≡ 65546 → count < 65536
    → Puts out 0 (record_of (take count space) asked.size asked.start) end out'
    → (take end out' ≡ record_of (take count space) asked.size asked.start)
    × (take (length (record_of (take count space) asked.size asked.start)) out' ≡ record_of (take count space) asked.size asked.start)
record_stands out out' space asked count end wide few p =
    let text : List ℕ = record_of (take count space) asked.size asked.start in
    let short : length text ≤ 65546 = omega (arith, length-take count space) in
    let q = put_whole out 0 text end out' (omega arith) p in
    let all : end ≡ length text = omega (arith, q.0) in
    (q.2, subst (λ (n : ℕ). take n out' ≡ text) all q.2)
