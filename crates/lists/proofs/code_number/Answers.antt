use Rattle.std.proofs.Common.{◌≡◌, refl, ◌+◌}
use denote.Enum.Declared.{tag_of}
use Rattle.rules.specs.Events.{code_number}
use Rattle.lists.specs.Lists.{code_of}
use Rattle.lists.specs.declared.Code.{Code}
use Rattle.lists.specs.declared.Code.TheVariants as Co
use Rattle.lists.specs.contracts.Code.{the_type}
use Rattle.lists.proofs.code_number.Goals as goal

code-number : (a : Code) → tag_of the_type a + 1 ≡ code_number (code_of a)
unfolding code_number
code-number Co.NyiDisjunction = refl
code-number Co.NyiFactField = refl
code-number Co.NyiNever = refl
code-number Co.NyiRepeatedVariable = refl
code-number Co.NyiValueField = refl
code-number Co.NyiValueMatch = refl
code-number Co.NyiWholeKey = refl
code-number Co.RejectTypeMismatch = refl
code-number Co.RejectUnionArity = refl
code-number Co.RejectUnknownAlternative = refl
code-number Co.RejectUnresolvedAccess = refl

pub returns : goal.returns
returns c = code-number c.args.code
