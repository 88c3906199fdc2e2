use Rattle.console_stream.proofs.Laws.{played_first}
use Rattle.console_stream.proofs.HolderListener524288.begin.Goals as goal

pub returns : goal.returns
returns c = played_first _ _ c.begin.ensures
