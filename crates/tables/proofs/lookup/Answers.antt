use native.Mathlib.Omega.{arith}
use mathlib.Core.Path.{refl, ◌∙◌}
use Rattle.accepted_file.proofs.Given.{few-names, passed}
use Rattle.tables.proofs.Searches.{no_name, no_last, last_none, last_some, last-slot, bound-none, bound_some}
use Rattle.tables.proofs.lookup.Goals as goal

pub returns-then-name-count_of : goal.returns-then-name-count_of
returns-then-name-count_of c = let r = c.args.file.now.accepted in record { shows = record { is = no_name _ _ (passed _ _ r) (omega (arith, c.count_of.ensures, c.if-name-count_of.true)); inside = tt }; view = bound-none _ _ _ _ refl (no_last _ _ (passed _ _ r) (omega (arith, c.count_of.ensures, c.if-name-count_of.true))) }

pub overflow_add-name : goal.overflow_add-name
overflow_add-name c = omega (arith, c.count_of.ensures, c.if-name-count_of.false, few-names _ _ c.args.file.now.accepted.indexed)

pub offset_bounds-file-name : goal.offset_bounds-file-name
offset_bounds-file-name c = omega (arith, c.count_of.ensures, c.if-name-count_of.false, few-names _ _ c.args.file.now.accepted.indexed)

pub bounds-file-name : goal.bounds-file-name
bounds-file-name c =
    let i = c.args.file.now.accepted.indexed in
    omega (arith, c.count_of.ensures, c.if-name-count_of.false, few-names _ _ i, i.long)

pub returns-then-k-eq0 : goal.returns-then-k-eq0
returns-then-k-eq0 c =
    let e = c.from-k.ensures ∙ c.args.file.now.accepted.last-bindings _ (omega (arith, c.count_of.ensures, c.if-name-count_of.false)) in
    record { shows = record { is = last_none _ _ _ e c.if-k-eq0.true; inside = tt }; view = bound-none _ _ _ _ e c.if-k-eq0.true }

pub binding_at-b-requires : goal.binding_at-b-requires
binding_at-b-requires c =
    let r = c.args.file.now.accepted in
    (last_some _ _ _ (c.from-k.ensures ∙ r.last-bindings _ (omega (arith, c.count_of.ensures, c.if-name-count_of.false))) c.if-k-eq0.false).0

pub returns : goal.returns
returns c = let n = c.from-k.ensures ∙ c.args.file.now.accepted.last-bindings _ (omega (arith, c.count_of.ensures, c.if-name-count_of.false)) in record { shows = last-slot _ _ _ _ c.binding_at-b.ensures.shows (last_some _ _ _ n c.if-k-eq0.false).1; view = bound_some _ _ _ _ n _ c.if-k-eq0.false c.binding_at-b.ensures.view }
