use Rattle.sink.proofs.RefusalDisplay.fmt.Goals as goal

pub returns-in-MarkAboveList-clause-writes : goal.returns-in-MarkAboveList-clause-writes
returns-in-MarkAboveList-clause-writes g c = rw c.in-MarkAboveList.is c.write-in-MarkAboveList.ensures.writes

pub returns-in-PastList-clause-writes : goal.returns-in-PastList-clause-writes
returns-in-PastList-clause-writes g c = rw c.in-PastList.is c.write-in-PastList.ensures.writes
