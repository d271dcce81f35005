use mathlib.Core.Path.{sym, ◌∙◌}
use Rattle.checks.proofs.Verdicts.{later-10, later-11, later-12, later-13, later-14, later-none}
use Rattle.checks.proofs.later_checks.Goals as goal

pub returns-then-not-types_distinct : goal.returns-then-not-types_distinct
returns-then-not-types_distinct c = later-10 _ (sym c.types_distinct.ensures ∙ c.if-not-types_distinct.true)

pub types_shallow-requires : goal.types_shallow-requires
types_shallow-requires c = c.requires.filled

pub returns-then-not-types_shallow : goal.returns-then-not-types_shallow
returns-then-not-types_shallow c = later-11 _ (sym c.types_distinct.ensures ∙ c.if-not-types_distinct.false) (sym c.types_shallow.ensures ∙ c.if-not-types_shallow.true)

pub children_once-requires : goal.children_once-requires
children_once-requires c = c.requires.lower

pub returns-then-not-children_once : goal.returns-then-not-children_once
returns-then-not-children_once c = later-12 _ (sym c.types_distinct.ensures ∙ c.if-not-types_distinct.false) (sym c.types_shallow.ensures ∙ c.if-not-types_shallow.false) (sym c.children_once.ensures ∙ c.if-not-children_once.true)

pub consts_constant-requires : goal.consts_constant-requires
consts_constant-requires c = c.requires

pub returns-then-not-consts_constant : goal.returns-then-not-consts_constant
returns-then-not-consts_constant c = later-13 _ (sym c.types_distinct.ensures ∙ c.if-not-types_distinct.false) (sym c.types_shallow.ensures ∙ c.if-not-types_shallow.false) (sym c.children_once.ensures ∙ c.if-not-children_once.false) (sym c.consts_constant.ensures ∙ c.if-not-consts_constant.true)

pub paths_fit-requires : goal.paths_fit-requires
paths_fit-requires c = c.requires

pub returns-then-not-paths_fit : goal.returns-then-not-paths_fit
returns-then-not-paths_fit c = later-14 _ (sym c.types_distinct.ensures ∙ c.if-not-types_distinct.false) (sym c.types_shallow.ensures ∙ c.if-not-types_shallow.false) (sym c.children_once.ensures ∙ c.if-not-children_once.false) (sym c.consts_constant.ensures ∙ c.if-not-consts_constant.false) (sym c.paths_fit.ensures ∙ c.if-not-paths_fit.true)

pub returns : goal.returns
returns c = later-none _ (sym c.types_distinct.ensures ∙ c.if-not-types_distinct.false) (sym c.types_shallow.ensures ∙ c.if-not-types_shallow.false) (sym c.children_once.ensures ∙ c.if-not-children_once.false) (sym c.consts_constant.ensures ∙ c.if-not-consts_constant.false) (sym c.paths_fit.ensures ∙ c.if-not-paths_fit.false)
