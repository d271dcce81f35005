-- What a level adds to the four lists stands at their ends, and binds no name anew.
use mathlib.Core.Bool.{false}
use mathlib.Core.List.{List, [], ◌∷◌, ◌++◌, append-nil, append_assoc}
use Rattle.std.specs.Prelude.{Option, None, Some}
use mathlib.Core.Path.{◌≡◌, refl, sym, ap, ◌∙◌, subst}
use Prim.Native.Nat.{ℕ}
use lib.Dec.{eqb}
use Rattle.rules.specs.Base.{last_or, ◌when_some◌}
use Rattle.rules.specs.File.{Tables, Binding}
use Rattle.rules.specs.Constant.{lookup}
use Rattle.rules.specs.Events.{Lists, Walk, bind, constrained, select, report, emit, brings}
use Rattle.rules.specs.Demand3.{already_bound, NoneAnew, Adds}
use Rattle.rules.proofs.Cases.{by-test, some≢none}
use Rattle.rules.proofs.Keeps.{Keeps}

-- a list that goes on from another
abbrev pub Onwards : {A : Type 0} → List A → List A → Type 0
Onwards {A} xs ys = (added : List A) × (ys ≡ xs ++ added)

module _ {A : Type 0} where
  pub onwards-same : (xs : List A) → Onwards xs xs
  onwards-same xs = ([], sym (append-nil xs))

  pub onwards-next : (xs ys zs : List A) → Onwards xs ys → Onwards ys zs → Onwards xs zs
  onwards-next xs ys zs a b = (a.0 ++ b.0, b.1 ∙ ap (λ l. l ++ b.0) a.1 ∙ append_assoc xs a.0 b.0)

  pub onwards-one : (xs : List A) (x : A) → Onwards xs (xs ++ (x ∷ []))
  onwards-one xs x = (x ∷ [], refl)

anew-next : (bound a b : List Binding) → NoneAnew bound a → NoneAnew (bound ++ a) b → NoneAnew bound (a ++ b)
anew-next bound [] b g h = subst (λ l. NoneAnew l b) (append-nil bound) h
anew-next bound (x ∷ a) b g h = (g.0, anew-next (bound ++ (x ∷ [])) a b g.1 (subst (λ l. NoneAnew l b) (sym (append_assoc bound (x ∷ []) a)) h))

-- nothing looked up: no binding has the name
last_none : (found : Option Binding) (bs : List Binding) (x : ℕ) → last_or found (λ b. eqb b.name x) bs ≡ None → (found ≡ None) × (already_bound bs x ≡ false)
unfolding last_or already_bound
last_none found [] x e = (e, refl)
last_none found (b ∷ bs) x e =
    by-test (λ r. r ≡ None → (found ≡ None) × (already_bound (b ∷ bs) x ≡ false)) (eqb b.name x)
    (λ q r. absurd (some≢none b (last_none (Some b) bs x r).0))
    (λ q r. let h = last_none found bs x r in (h.0, rw (q, already_bound) h.1)) e

bind-none : {A B : Type 0} (o : Option A) (f : A → B) → (o when_some λ a. Some (f a)) ≡ None → o ≡ None
unfolding ◌when_some◌
bind-none None f e = refl
bind-none (Some a) f e = absurd (some≢none (f a) e)

pub unbound : (bs : List Binding) (x : ℕ) → lookup bs x ≡ None → already_bound bs x ≡ false
unfolding lookup
unbound bs x e = (last_none None bs x (bind-none _ (λ b. b.slot) e)).1

abbrev pub AddsTo : Walk → Walk → Type 0
AddsTo w w' = Adds w.lists w'.lists

adds_same : (l : Lists) → Adds l l
adds_same l =
    record {
      bindings = [];
      bindings-end = sym (append-nil l.bindings);
      none-anew = tt;
      constrained-end = onwards-same l.constrained;
      selects-end = onwards-same l.selects;
      diagnostics-end = onwards-same l.diagnostics;
    }

adds-next : (k l m : Lists) → Adds k l → Adds l m → Adds k m
unfolding onwards-next
adds-next k l m a b =
    record {
      bindings = a.bindings ++ b.bindings;
      bindings-end = (onwards-next k.bindings l.bindings m.bindings (a.bindings, a.bindings-end) (b.bindings, b.bindings-end)).1;
      none-anew = anew-next k.bindings a.bindings b.bindings a.none-anew (subst (λ s. NoneAnew s b.bindings) a.bindings-end b.none-anew);
      constrained-end = onwards-next k.constrained l.constrained m.constrained a.constrained-end b.constrained-end;
      selects-end = onwards-next k.selects l.selects m.selects a.selects-end b.selects-end;
      diagnostics-end = onwards-next k.diagnostics l.diagnostics m.diagnostics a.diagnostics-end b.diagnostics-end;
    }

-- one entry more at one list's end
adds-binding : (l m : Lists) (b : Binding) → already_bound l.bindings b.name ≡ false → m.bindings ≡ l.bindings ++ (b ∷ []) → Onwards l.constrained m.constrained → Onwards l.selects m.selects → Onwards l.diagnostics m.diagnostics → Adds l m
adds-binding l m b new e c s d = record { bindings = b ∷ []; bindings-end = e; none-anew = (new, tt); constrained-end = c; selects-end = s; diagnostics-end = d }

adds-others : (l m : Lists) → m.bindings ≡ l.bindings → Onwards l.constrained m.constrained → Onwards l.selects m.selects → Onwards l.diagnostics m.diagnostics → Adds l m
adds-others l m e c s d = record { bindings = []; bindings-end = e ∙ sym (append-nil l.bindings); none-anew = tt; constrained-end = c; selects-end = s; diagnostics-end = d }

pub adds-keeps : (T : Tables) → Keeps T AddsTo
unfolding bind constrained select report emit brings
adds-keeps T =
    record {
      same = λ w. adds_same w.lists;
      next = λ u v w g h. adds-next u.lists v.lists w.lists g h;
      binds = λ x slot w e ok c. adds-binding w.lists _ (record { name = x; slot = slot }) (unbound w.lists.bindings x e) refl (onwards-same _) (onwards-same _) (onwards-same _);
      constrains = λ x w. adds-others w.lists _ refl (onwards-one w.lists.constrained x) (onwards-same _) (onwards-same _);
      selects = λ a p d w s. adds-others w.lists _ refl (onwards-same _) (onwards-one w.lists.selects (record { address = a; path = p; disc = d })) (onwards-same _);
      reports = λ n c h w. adds-others w.lists _ refl (onwards-same _) (onwards-same _) (onwards-one w.lists.diagnostics (record { node = n; code = c }));
      skips = λ w. adds_same w.lists;
      bounds = λ x t w. adds_same w.lists;
      constants = λ m n t c p w e s. adds_same w.lists;
      registers = λ m a at p w s s'. adds_same w.lists;
      facts = λ m a p w s. adds_same w.lists;
      own-fields = λ m at p w s s'. adds_same w.lists;
      brought = λ slot ty w. adds_same w.lists;
      unions = λ m d p w w' s h. h;
    }
