use mathlib.Core.Path.{◌≡◌, refl, ap, ◌∙◌}
use borrow.Author.Rules.{rules}
use Rattle.std.specs.Prelude.{Some}
use Rattle.constant.specs.declared.Const.TheVariants as Co
use Rattle.seek.proofs.Constants.{at_place, in-names, by-nothing, by_bytes, by-prefix, by-fuzzy}
use Rattle.seek.proofs.SeekBuilder.with_constant.Goals as goal

pub bytes-requires : goal.bytes-requires
bytes-requires c =
    let e : c.args.constant ≡ Some (Co.Bytes c.in-Some-Bytes.n c.in-Some-Bytes.ty c.in-Some-Bytes.len) = search rules in
    let k = at_place _ _ c.requires _ _ _ e in
    record { value_in_bounds = k.in-nodes; ty_in_bounds = k.in-types; ty_value = k.is }

pub prefix-requires : goal.prefix-requires
prefix-requires c =
    let e : c.args.constant ≡ Some (Co.Prefix c.in-Some-Prefix.x) = search rules in
    in-names _ _ c.args.file.now.accepted _ c.requires _ e

pub returns-in-None : goal.returns-in-None
returns-in-None c = λ e w. by-nothing _ _ _ _ _ _ c.in-None.is refl

pub returns-in-Some-Bytes : goal.returns-in-Some-Bytes
returns-in-Some-Bytes c =
    let q : c.args.constant ≡ Some (Co.Bytes c.in-Some-Bytes.n c.in-Some-Bytes.ty c.in-Some-Bytes.len) = search rules in
    λ e w. by_bytes _ _ _ _ _ _ _ _ _ q (at_place _ _ c.requires _ _ _ q).is (c.bytes.ensures e w)

pub returns-in-Some-Prefix : goal.returns-in-Some-Prefix
returns-in-Some-Prefix c =
    let q : c.args.constant ≡ Some (Co.Prefix c.in-Some-Prefix.x) = search rules in
    λ e w. by-prefix _ _ _ _ _ _ _ q (c.prefix.ensures e w)

pub returns-in-Some-Fuzzy : goal.returns-in-Some-Fuzzy
returns-in-Some-Fuzzy c =
    let q : c.args.constant ≡ Some (Co.Fuzzy c.in-Some-Fuzzy.x c.in-Some-Fuzzy.d c.in-Some-Fuzzy.a) = search rules in
    λ e w. by-fuzzy _ _ _ _ _ _ _ _ _ q (c.fuzzy.ensures _ e w)
