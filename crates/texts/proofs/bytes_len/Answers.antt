use mathlib.Core.Path.{sym, ap, ◌∙◌}
use Rattle.std.specs.Prelude.{Some}
use Rattle.texts.proofs.Sizes.{carried, bytes-size}
use Rattle.texts.proofs.bytes_len.Goals as goal

pub returns-in_default : goal.returns-in_default
returns-in_default c = bytes-size _ _ _ _ _ c.any_constant.ensures (ap carried (sym c.in_default.is))

pub returns-in-Bytes : goal.returns-in-Bytes
returns-in-Bytes c = bytes-size _ _ _ _ _ c.any_constant.ensures (ap carried (sym (c.in-Some.is ∙ ap Some c.in-Bytes.is)))

pub returns-in-Prefix : goal.returns-in-Prefix
returns-in-Prefix c = bytes-size _ _ _ _ _ c.any_constant.ensures (ap carried (sym (c.in-Some.is ∙ ap Some c.in-Prefix.is)))

pub returns-in-Fuzzy : goal.returns-in-Fuzzy
returns-in-Fuzzy c = bytes-size _ _ _ _ _ c.any_constant.ensures (ap carried (sym (c.in-Some.is ∙ ap Some c.in-Fuzzy.is)))
