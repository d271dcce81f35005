use native.Mathlib.Omega.{arith}
use Rattle.views.specs.Views.{comparison_at, comparison_of}
use Rattle.seek.specs.Bounds.{edge_by, fold_one}
use mathlib.Core.Path.{◌≡◌, sym, ap, ◌∙◌}
use Rattle.file.specs.Tables.{tables_of}
use Rattle.rules.specs.File.{Comparison}
use Rattle.seek.proofs.Folds.{edges-same, edges-stay, fold-left, fold-right, fold-none, left_in, right-in}
use Rattle.seek.proofs.SeekBuilder.compared.Goals as goal

pub is_var-requires : goal.is_var-requires
is_var-requires c =
    let r = c.comparison_at-c in
    let T = tables_of c.args.file.now.tables.bytes.now in
    let l : r.result.left ≡ (comparison_at T c.args.k).left = ap (λ (y : Comparison). y.left) r.ensures in
    let g : r.result.right ≡ (comparison_at T c.args.k).right = ap (λ (y : Comparison). y.right) r.ensures in
    let p = left_in _ _ c.args.file.now.accepted c.args.k c.requires.k_in_bounds in
    let q = right-in _ _ c.args.file.now.accepted c.args.k c.requires.k_in_bounds in
    omega arith

pub edge_at-requires : goal.edge_at-requires
edge_at-requires c =
    let r = c.comparison_at-c in
    let T = tables_of c.args.file.now.tables.bytes.now in
    let l : r.result.left ≡ (comparison_at T c.args.k).left = ap (λ (y : Comparison). y.left) r.ensures in
    let g : r.result.right ≡ (comparison_at T c.args.k).right = ap (λ (y : Comparison). y.right) r.ensures in
    let p = left_in _ _ c.args.file.now.accepted c.args.k c.requires.k_in_bounds in
    let q = right-in _ _ c.args.file.now.accepted c.args.k c.requires.k_in_bounds in
    record { k_in_bounds = c.requires.k_in_bounds; node_in_bounds = omega arith; ty_in_bounds = c.requires.ty_in_bounds }

pub returns-then-is_var : goal.returns-then-is_var
returns-then-is_var c =
    λ e w p.
    let r = c.comparison_at-c in
    let T = tables_of c.args.file.now.tables.bytes.now in
    let c' : Comparison = comparison_of r.result in
    edges-same _ _ _ _ (c.edge_at.ensures e w p) (λ y. fold-left T c.args.name c.args.ty c.args.k c' y (sym c.is_var.ensures ∙ c.if-is_var.true) ∙ (ap (λ (z : Comparison). fold_one T c.args.name c.args.ty c.args.k z y) r.ensures))

pub is_var-requires-2 : goal.is_var-requires-2
is_var-requires-2 c =
    let r = c.comparison_at-c in
    let T = tables_of c.args.file.now.tables.bytes.now in
    let l : r.result.left ≡ (comparison_at T c.args.k).left = ap (λ (y : Comparison). y.left) r.ensures in
    let g : r.result.right ≡ (comparison_at T c.args.k).right = ap (λ (y : Comparison). y.right) r.ensures in
    let p = left_in _ _ c.args.file.now.accepted c.args.k c.requires.k_in_bounds in
    let q = right-in _ _ c.args.file.now.accepted c.args.k c.requires.k_in_bounds in
    omega arith

pub edge_at-requires-then-is_var-2 : goal.edge_at-requires-then-is_var-2
edge_at-requires-then-is_var-2 c =
    let r = c.comparison_at-c in
    let T = tables_of c.args.file.now.tables.bytes.now in
    let l : r.result.left ≡ (comparison_at T c.args.k).left = ap (λ (y : Comparison). y.left) r.ensures in
    let g : r.result.right ≡ (comparison_at T c.args.k).right = ap (λ (y : Comparison). y.right) r.ensures in
    let p = left_in _ _ c.args.file.now.accepted c.args.k c.requires.k_in_bounds in
    let q = right-in _ _ c.args.file.now.accepted c.args.k c.requires.k_in_bounds in
    record { k_in_bounds = c.requires.k_in_bounds; node_in_bounds = omega arith; ty_in_bounds = c.requires.ty_in_bounds }

pub returns-then-is_var-2 : goal.returns-then-is_var-2
returns-then-is_var-2 c =
    λ e w p.
    let r = c.comparison_at-c in
    let T = tables_of c.args.file.now.tables.bytes.now in
    let c' : Comparison = comparison_of r.result in
    edges-same _ _ _ _ (c.edge_at-then-is_var-2.ensures e w p) (λ y. ap (λ o. edge_by T c.args.k o r.result.left c.args.ty y) c.flipped.ensures ∙ fold-right T c.args.name c.args.ty c.args.k c' y (sym c.is_var.ensures ∙ c.if-is_var.false) (sym c.is_var-2.ensures ∙ c.if-is_var-2.true) ∙ (ap (λ (z : Comparison). fold_one T c.args.name c.args.ty c.args.k z y) r.ensures))

pub returns : goal.returns
returns c =
    λ e w p.
    let r = c.comparison_at-c in
    let T = tables_of c.args.file.now.tables.bytes.now in
    let c' : Comparison = comparison_of r.result in
    edges-stay _ _ (λ y. sym (ap (λ (z : Comparison). fold_one T c.args.name c.args.ty c.args.k z y) r.ensures) ∙ fold-none T c.args.name c.args.ty c.args.k c' y (sym c.is_var.ensures ∙ c.if-is_var.false) (sym c.is_var-2.ensures ∙ c.if-is_var-2.false))
