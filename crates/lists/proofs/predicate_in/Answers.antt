use Rattle.lists.proofs.Fits.{no-predicate, some-predicate}
use Rattle.lists.proofs.predicate_in.Goals as goal

pub returns-in-None : goal.returns-in-None
returns-in-None c = no-predicate _ _ c.in-None.is

pub returns-in-Some : goal.returns-in-Some
returns-in-Some c = some-predicate _ _ _ _ _ c.in-Some.is c.from.ensures c.numbered.ensures
