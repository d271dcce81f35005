use native.Mathlib.Omega.{arith}
use mathlib.Core.Path.{sym}
use Rattle.file.proofs.Raised.{raised}
use Rattle.plan_form.proofs.Lists.{levels-read, bindings-read, constrained-read, selects_read, diagnostics-read, plan-over, plan-whole}
use Rattle.plan_form.proofs.Lists.{levels-fault, bindings-fault, constrained-fault, selects_fault, diagnostics-fault}
use Rattle.plan_form.proofs.plan_end.Goals as goal

pub list_end-requires : goal.list_end-requires
list_end-requires c =
    let b = levels-read _ 0 _ (sym c.in_ok-b.ensures) in
    b.within

pub words_end-requires : goal.words_end-requires
words_end-requires c =
    let b = levels-read _ 0 _ (sym c.in_ok-b.ensures) in
    let k = bindings-read _ _ _ b (sym c.in_ok-k.ensures) in
    k.within

pub list_end-requires-2 : goal.list_end-requires-2
list_end-requires-2 c =
    let b = levels-read _ 0 _ (sym c.in_ok-b.ensures) in
    let k = bindings-read _ _ _ b (sym c.in_ok-k.ensures) in
    let s = constrained-read _ _ _ k (sym c.in_ok-s.ensures) in
    s.within

pub list_end-requires-3 : goal.list_end-requires-3
list_end-requires-3 c =
    let b = levels-read _ 0 _ (sym c.in_ok-b.ensures) in
    let k = bindings-read _ _ _ b (sym c.in_ok-k.ensures) in
    let s = constrained-read _ _ _ k (sym c.in_ok-s.ensures) in
    let d = selects_read _ _ _ s (sym c.in_ok-d.ensures) in
    d.within

pub returns-in_err-b : goal.returns-in_err-b
returns-in_err-b c =
    raised _ _ _ c.from_residual.ensures.1 (sym (levels-fault _ 0 _ (sym c.in_err-b.ensures)))

pub returns-in_err-k : goal.returns-in_err-k
returns-in_err-k c =
    let b = levels-read _ 0 _ (sym c.in_ok-b.ensures) in
    raised _ _ _ c.from_residual-in_err-k.ensures.1 (sym (bindings-fault _ _ _ b (sym c.in_err-k.ensures)))

pub returns-in_err-s : goal.returns-in_err-s
returns-in_err-s c =
    let b = levels-read _ 0 _ (sym c.in_ok-b.ensures) in
    let k = bindings-read _ _ _ b (sym c.in_ok-k.ensures) in
    raised _ _ _ c.from_residual-in_err-s.ensures.1 (sym (constrained-fault _ _ _ k (sym c.in_err-s.ensures)))

pub returns-in_err-d : goal.returns-in_err-d
returns-in_err-d c =
    let b = levels-read _ 0 _ (sym c.in_ok-b.ensures) in
    let k = bindings-read _ _ _ b (sym c.in_ok-k.ensures) in
    let s = constrained-read _ _ _ k (sym c.in_ok-s.ensures) in
    raised _ _ _ c.from_residual-in_err-d.ensures.1 (sym (selects_fault _ _ _ s (sym c.in_err-d.ensures)))

pub returns-in_err-p : goal.returns-in_err-p
returns-in_err-p c =
    let b = levels-read _ 0 _ (sym c.in_ok-b.ensures) in
    let k = bindings-read _ _ _ b (sym c.in_ok-k.ensures) in
    let s = constrained-read _ _ _ k (sym c.in_ok-s.ensures) in
    let d = selects_read _ _ _ s (sym c.in_ok-d.ensures) in
    raised _ _ _ c.from_residual-in_err-p.ensures.1 (sym (diagnostics-fault _ _ _ d (sym c.in_err-p.ensures)))

pub returns-then-p-plan : goal.returns-then-p-plan
returns-then-p-plan c =
    let b = levels-read _ 0 _ (sym c.in_ok-b.ensures) in
    let k = bindings-read _ _ _ b (sym c.in_ok-k.ensures) in
    let s = constrained-read _ _ _ k (sym c.in_ok-s.ensures) in
    let d = selects_read _ _ _ s (sym c.in_ok-d.ensures) in
    let p = diagnostics-read _ _ _ d (sym c.in_ok-p.ensures) in
    sym (plan-over _ _ p (omega arith))

pub returns : goal.returns
returns c =
    let b = levels-read _ 0 _ (sym c.in_ok-b.ensures) in
    let k = bindings-read _ _ _ b (sym c.in_ok-k.ensures) in
    let s = constrained-read _ _ _ k (sym c.in_ok-s.ensures) in
    let d = selects_read _ _ _ s (sym c.in_ok-d.ensures) in
    let p = diagnostics-read _ _ _ d (sym c.in_ok-p.ensures) in
    sym (plan-whole _ _ p (omega arith))
