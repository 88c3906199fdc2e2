use Rattle.unit_commands.proofs.read_buffer.Goals as goal

pub returns : goal.returns
returns c = simp (c.read_ended.ensures, c.read_out-read.ensures.0, c.read_out-read.ensures.1)
