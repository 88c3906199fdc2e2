-- What `put_record` makes is what `read_header` and `read_payload` of record_format take: a record of kind 1 comes back as its
-- size, start and image.
use Prim.Native.Nat.{ℕ, ◌+◌, ◌<◌}
use mathlib.Core.Path.{◌≡◌, refl}
use mathlib.Core.Bool.{false}
use mathlib.Core.List.{List}
use native.Mathlib.Omega.{arith}
use lib.Dec.{eqb, ltb}
use borrow.Author.Tests.{ne_eqb, le-ltb}
use lib.ListN.{length, drop}
use Rattle.record_format.specs.Records.{header_of, payload_of, length_in, kind_in, le16}
use Rattle.record_format.specs.declared.Header.TheVariants.{Record}
use Rattle.std.specs.Prelude.{Ok}
use Rattle.record_make.specs.Making.{record_of}

module _ (image : List ℕ) (size start : ℕ) (short : length image < 65536) (s : size < 65536) (t : start < 65536) where
  made : List ℕ
  made = record_of image size start

  pub made_head : header_of (record_of image size start) ≡ Record (length image + 4) 1
  unfolding made length_in kind_in
  made_head =
      let n : length_in made ≡ length image + 4 = omega arith in
      let some : eqb (length made) 0 ≡ false = ne_eqb (length made) 0 (λ e. omega arith) in
      let six : ltb (length made) 6 ≡ false = le-ltb (length made) 6 (omega arith) in
      simp (some, six, n)

  pub made_payload : payload_of 1 (drop 6 (record_of image size start)) ≡ Ok (record { size = size; start = start })
  unfolding made
  made_payload =
      let a : le16 made 6 ≡ size = omega arith in
      let b : le16 made 8 ≡ start = omega arith in
      let four : ltb (length (drop 6 made)) 4 ≡ false = le-ltb (length (drop 6 made)) 4 (omega arith) in
      simp (four, a, b)

  pub made_image : drop 10 (record_of image size start) ≡ image
  made_image = refl
