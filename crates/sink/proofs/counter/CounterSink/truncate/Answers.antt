use Rattle.std.proofs.Common.{rules}
use Rattle.std.proofs.lemmas.List.{take-replicate}
use Rattle.sink.proofs.counter.CounterSink.truncate.Goals as goal

pub returns-clause-list : goal.returns-clause-list
returns-clause-list c = search (rules, take-replicate)
