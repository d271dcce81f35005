-- What is left after each reading of a plan is an end of what was there before.
use Prim.Native.Nat.{ℕ}
use mathlib.Core.Bool.{Bool, true, false}
use mathlib.Core.List.{List}
use lib.Dec.{leb}
use Rattle.rules.specs.Limits.{step_limit}
use Rattle.rules.specs.Read.{Reader, refuse, u32, many, anchor, fuzzy_node, row_slot, key_slot, derived_slot, value_slot, const_slot}
use Rattle.rules.specs.Reader as Reader
use Rattle.file.proofs.Suffix.{Suffix, suffix-pure, suffix-refuse, suffix-bind, suffix-u8, suffix-many, suffixes-none, suffixes-more, suffix-kind, suffix-u16, suffix-u32, suffix-optional, suffix-skim, suffix-one, suffix-two, suffix-three}
use Rattle.plan_form.specs.Pieces.{item_of, range, edges, after_guide, after_seek}
use Rattle.plan_form.specs.declared.Kind.{Kind}
use Rattle.plan_form.specs.declared.Kind.TheVariants as Kinds

pub suffix-counted : {A : Type 0} {r : Reader A} → Suffix r → Suffix (Reader.counted r)
unfolding Reader.counted
suffix-counted x = suffix-bind suffix-u16 (λ n. suffix-many x n)

pub suffix-text : Suffix Reader.text
unfolding Reader.text
suffix-text = suffix-counted suffix-u8

suffix-steps : (n : ℕ) → Suffix (Reader.steps n)
unfolding Reader.steps
suffix-steps n = go (leb n step_limit)
  where
    go : (b : Bool) → Suffix {A = List ℕ} (elim b as (λ _. Reader (List ℕ)) [ true ↦ many n u32 | false ↦ refuse 5 ])
    go true = suffix-many suffix-u32 n
    go false = suffix-refuse 5

pub suffix-path : Suffix Reader.path
unfolding Reader.path
suffix-path = suffix-bind suffix-u16 (λ f. suffix-bind suffix-u8 (λ n. suffix-one _ (suffix-steps n)))

pub suffix-field_slot : Suffix Reader.field_slot
unfolding Reader.field_slot
suffix-field_slot = suffix-three _ suffix-u16 suffix-path suffix-u16

pub suffix-slot : Suffix Reader.slot
unfolding Reader.slot row_slot key_slot derived_slot value_slot const_slot
suffix-slot =
    suffix-kind
    (suffixes-more (suffix-two _ suffix-u16 suffix-optional)
    (suffixes-more (suffix-two _ suffix-u16 suffix-u16)
    (suffixes-more (suffix-one _ suffix-u16)
    (suffixes-more suffix-field_slot
    (suffixes-more (suffix-two _ suffix-u16 suffix-u16) (suffixes-more (suffix-one _ suffix-u16) suffixes-none))))))

pub suffix-binding : Suffix Reader.binding
unfolding Reader.binding
suffix-binding = suffix-two _ suffix-u16 suffix-slot

pub suffix-select : Suffix Reader.select
unfolding Reader.select
suffix-select = suffix-three _ suffix-u16 suffix-path suffix-u32

pub suffix-code : Suffix Reader.code
unfolding Reader.code
suffix-code =
    suffix-kind
    (suffixes-more (suffix-refuse _)
    (suffixes-more (suffix-pure _)
    (suffixes-more (suffix-pure _)
    (suffixes-more (suffix-pure _)
    (suffixes-more (suffix-pure _)
    (suffixes-more (suffix-pure _)
    (suffixes-more (suffix-pure _)
    (suffixes-more (suffix-pure _)
    (suffixes-more (suffix-pure _)
    (suffixes-more (suffix-pure _) (suffixes-more (suffix-pure _) (suffixes-more (suffix-pure _) suffixes-none))))))))))))

pub suffix-diagnostic : Suffix Reader.diagnostic
unfolding Reader.diagnostic
suffix-diagnostic = suffix-two _ suffix-u16 suffix-code

pub suffix-register_part : Suffix Reader.register_part
unfolding Reader.register_part
suffix-register_part = suffix-two _ suffix-u16 suffix-path

pub suffix-key : Suffix Reader.part_key
unfolding Reader.part_key Reader.bytes_part Reader.fact_part
suffix-key = suffix-kind (suffixes-more (suffix-one _ suffix-text) (suffixes-more suffix-register_part (suffixes-more (suffix-one _ suffix-u16) suffixes-none)))

pub suffix-part : Suffix Reader.part
unfolding Reader.part
suffix-part = suffix-two _ suffix-key suffix-u16

pub suffix-edge : Suffix Reader.edge
unfolding Reader.edge Reader.edge_that
suffix-edge = suffix-kind (suffixes-more (suffix-pure _) (suffixes-more (suffix-one _ suffix-text) (suffixes-more (suffix-one _ suffix-text) suffixes-none)))

pub suffix-range_seek : (n : ℕ) → Suffix (Reader.range_seek n)
unfolding Reader.range_seek
suffix-range_seek n = suffix-bind (suffix-many suffix-part n) (λ ps. suffix-three _ suffix-text suffix-path suffix-u16)

pub suffix-bounded_seek : (n : ℕ) → Suffix (Reader.bounded_seek n)
unfolding Reader.bounded_seek
suffix-bounded_seek n = suffix-three _ (suffix-many suffix-part n) suffix-edge suffix-edge

pub suffix-seek : (n : ℕ) → Suffix (Reader.seek n)
unfolding Reader.seek Reader.prefix_seek Reader.composite_seek
suffix-seek n =
    suffix-kind
    (suffixes-more (suffix-two _ suffix-text (suffix-many suffix-u16 n))
    (suffixes-more (suffix-one _ (suffix-many suffix-part n)) (suffixes-more (suffix-range_seek n) (suffixes-more (suffix-bounded_seek n) suffixes-none))))

suffix-anchor : Suffix anchor
unfolding anchor
suffix-anchor = suffix-kind (suffixes-more (suffix-pure _) (suffixes-more (suffix-pure _) suffixes-none))

pub suffix-fuzzy_node : Suffix fuzzy_node
unfolding fuzzy_node
suffix-fuzzy_node = suffix-three _ suffix-u16 suffix-u8 suffix-anchor

pub suffix-guide_that : Suffix Reader.guide_that
unfolding Reader.guide_that
suffix-guide_that = suffix-bind suffix-path (λ p. suffix-bind suffix-u16 (λ x. suffix-three _ suffix-u8 suffix-anchor suffix-u16))

pub suffix-guide : Suffix Reader.guide
unfolding Reader.guide
suffix-guide = suffix-kind (suffixes-more (suffix-pure _) (suffixes-more suffix-guide_that suffixes-none))

pub suffix-op : Suffix Reader.op
unfolding Reader.op Reader.bytes_op Reader.prefix_op Reader.register_op Reader.fact_op Reader.tag_op Reader.fuzzy_op Reader.own_op
suffix-op =
    suffix-kind
    (suffixes-more (suffix-one _ suffix-text)
    (suffixes-more (suffix-one _ suffix-text)
    (suffixes-more (suffix-two _ suffix-u16 suffix-path)
    (suffixes-more (suffix-one _ suffix-u16)
    (suffixes-more (suffix-one _ suffix-u32)
    (suffixes-more (suffix-three _ suffix-u16 suffix-u8 suffix-anchor) (suffixes-more (suffix-one _ suffix-path) suffixes-none)))))))

pub suffix-residual : Suffix Reader.residual
unfolding Reader.residual
suffix-residual = suffix-three _ suffix-path suffix-op suffix-u16

pub suffix-level : Suffix Reader.level
unfolding Reader.level
suffix-level =
    suffix-bind suffix-u16 (λ ns.
    suffix-bind suffix-u16 (λ cs.
    suffix-bind suffix-u16 (λ ps.
    suffix-bind (suffix-seek ps) (λ s. suffix-three _ suffix-guide (suffix-counted suffix-residual) (suffix-counted suffix-u16)))))

pub suffix-range : Suffix range
unfolding range
suffix-range = suffix-three _ suffix-text suffix-path suffix-u16

pub suffix-edges : Suffix edges
unfolding edges
suffix-edges = suffix-two _ suffix-edge suffix-edge

pub suffix-after_guide : Suffix after_guide
unfolding after_guide
suffix-after_guide = suffix-two _ (suffix-counted suffix-residual) (suffix-counted suffix-u16)

pub suffix-after_seek : Suffix after_seek
unfolding after_seek
suffix-after_seek = suffix-bind suffix-guide (λ g. suffix-after_guide)

pub suffix-item : (k : Kind) → Suffix (item_of k)
unfolding item_of
suffix-item Kinds.Part = suffix-skim suffix-part
suffix-item Kinds.Residual = suffix-skim suffix-residual
suffix-item Kinds.Binding = suffix-skim suffix-binding
suffix-item Kinds.Select = suffix-skim suffix-select
suffix-item Kinds.Diagnostic = suffix-skim suffix-diagnostic
