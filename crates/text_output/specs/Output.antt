-- Output that is written piece by piece. No contract can say whether a write takes the bytes that it is given; this says how many it
-- was given.
use Rattle.std.specs.Prelude.{ℕ, ◌+◌, min, ◌≡◌, true}
use Rattle.text_output.specs.declared.Output.{Output}

-- an output that is open after a write of n bytes was open before it, and has been handed so many more, or all of the buffer
pub record Handed (output : Output) (room n : ℕ) (next : Output) : Type 0 where
  pub was : next.open ≡ true → output.open ≡ true
  pub count : next.open ≡ true → next.written ≡ output.written + min n room
