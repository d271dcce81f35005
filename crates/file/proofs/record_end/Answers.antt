use mathlib.Core.Path.{sym, ap, ◌∙◌}
use Rattle.file.specs.Sections.{number_of}
use Rattle.file.proofs.Leaves.{record-name, record-type, record-node, record-binding, record-fetched, record-comparison, record-fixed}
use Rattle.file.proofs.record_end.Goals as goal

pub returns-in-Names : goal.returns-in-Names
returns-in-Names c = c.name_end.ensures ∙ sym (record-name _ _ _ (ap number_of c.in-Names.is))

pub returns-in-Types : goal.returns-in-Types
returns-in-Types c = c.type_end.ensures ∙ sym (record-type _ _ _ (ap number_of c.in-Types.is))

pub returns-in-Nodes : goal.returns-in-Nodes
returns-in-Nodes c = c.node_end.ensures ∙ sym (record-node _ _ _ (ap number_of c.in-Nodes.is))

pub returns-in-Bindings : goal.returns-in-Bindings
returns-in-Bindings c = c.binding_end.ensures ∙ sym (record-binding _ _ _ (ap number_of c.in-Bindings.is))

pub returns-in-Fetched : goal.returns-in-Fetched
returns-in-Fetched c = c.fetched_end.ensures ∙ sym (record-fetched _ _ _ (ap number_of c.in-Fetched.is))

pub returns-in-Comparisons : goal.returns-in-Comparisons
returns-in-Comparisons c = c.comparison_end.ensures ∙ sym (record-comparison _ _ _ (ap number_of c.in-Comparisons.is))

pub returns-in_default : goal.returns-in_default
returns-in_default c =
    let n = c.in_default in
    let e = record-fixed _ _ _ n.not-Names n.not-Types n.not-Nodes n.not-Bindings n.not-Fetched n.not-Comparisons in
    rw c.number.ensures at c.fixed.ensures ∙ sym e
