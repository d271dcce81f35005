use mathlib.Core.Path.{ap, ◌∙◌}
use mathlib.Core.Bool.{not}
use Prim.Native.Nat.{ℕ}
use lib.Dec.{eqb}
use Rattle.lists.proofs.Scans.{named_past, named_none, name-inside, named-word}
use Rattle.lists.proofs.named_at.Goals as goal

pub returns-then-bytes-p : goal.returns-then-bytes-p
returns-then-bytes-p c = named_past _ _ _ c.if-bytes-p.true

pub word_at-requires : goal.word_at-requires
word_at-requires c = name-inside _ _ c.args.name c.if-bytes-p.false _ c.end_at.ensures c.if-end_at-ne0.true

pub returns-then-end_at-ne0 : goal.returns-then-end_at-ne0
returns-then-end_at-ne0 c = ap (λ (w : ℕ). eqb w c.args.name) c.word_at.ensures.reads ∙ named-word _ _ _ c.if-bytes-p.false _ c.end_at.ensures c.if-end_at-ne0.true

pub returns-else-end_at-ne0 : goal.returns-else-end_at-ne0
returns-else-end_at-ne0 c =
    ap (λ (q : ℕ). not (eqb q 0)) c.if-end_at-ne0.false
    ∙ named_none _ _ _ c.if-bytes-p.false _ c.end_at.ensures c.if-end_at-ne0.false
