use Rattle.field_cases.proofs.Starts.{as-union, as-var, as-wildcard, as-never, as-prefix, as-fuzzy, as-disjunction, as-literal}
use borrow.Author.Rules.{rules}
use Rattle.field_cases.proofs.way_of.Goals as goal

pub returns-then-is_injection : goal.returns-then-is_injection
returns-then-is_injection c = as-union _ _ _ _ c.is_injection.ensures c.if-is_injection.true

pub returns-in-Var : goal.returns-in-Var
returns-in-Var c = as-var _ _ _ _ c.is_injection.ensures c.if-is_injection.false _ _ c.node_of.ensures.shows _ c.in-Var.is

pub returns-in-Wildcard : goal.returns-in-Wildcard
returns-in-Wildcard c = as-wildcard _ _ _ _ c.is_injection.ensures c.if-is_injection.false _ _ c.node_of.ensures.shows c.in-Wildcard.is

pub returns-in-Never : goal.returns-in-Never
returns-in-Never c = as-never _ _ _ _ c.is_injection.ensures c.if-is_injection.false _ _ c.node_of.ensures.shows c.in-Never.is

pub returns-in-Prefix : goal.returns-in-Prefix
returns-in-Prefix c = as-prefix _ _ _ _ c.is_injection.ensures c.if-is_injection.false _ _ c.node_of.ensures.shows _ c.in-Prefix.is

pub returns-in-Fuzzy : goal.returns-in-Fuzzy
returns-in-Fuzzy c = as-fuzzy _ _ _ _ c.is_injection.ensures c.if-is_injection.false _ _ c.node_of.ensures.shows _ _ _ c.in-Fuzzy.is

pub returns-in-Disjunction : goal.returns-in-Disjunction
returns-in-Disjunction c = as-disjunction _ _ _ _ c.is_injection.ensures c.if-is_injection.false _ _ c.node_of.ensures.shows c.in-Disjunction.is

pub returns-in_default : goal.returns-in_default
returns-in_default c = as-literal _ _ _ _ c.is_injection.ensures c.if-is_injection.false _ _ c.node_of.ensures.shows (search rules) _ c.literal_way.ensures
