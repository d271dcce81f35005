-- The last binding of each name, as the checks write it to the index, and the filled index.
use Prim.Native.Nat.{ℕ, suc, ◌+◌, ◌≤◌, ◌<◌}
use mathlib.Core.Path.{◌≡◌, refl, sym, ap, ◌∙◌}
use mathlib.Core.Bool.{true}
use mathlib.Core.List.{List, [], ◌∷◌}
use native.Mathlib.Omega.{arith}
use native.Mathlib.Numerals.{add-one}
use lib.Dec.{eqb}
use lib.ListN.{length, get_or, set, take, drop, replicate, length-set, length-replicate, get_or-replicate, drop_of_length-le}
use lib.Seq.{sets, length-sets, drop-cons, take_all, get_or-set_same, get_or-set_other}
use borrow.Author.Tests.{eqb-true, eqb-false}
use Rattle.rules.specs.File.{Tables, Binding, Slot, depths, depth, is_constant}
use Rattle.rules.specs.Checks.{children_lower}
use Rattle.rules.proofs.Cases.{by-test}
use Rattle.file.specs.Steps.{depths_base, constants_base, last_bindings_base, index_length}
use Rattle.file.specs.Tables.{Indexed, tables_of, last_from, last_binding}
use Rattle.file.proofs.Accepted.{sets-in, sets_below}
use Rattle.views.specs.Views.{binding_at}
use Rattle.checks.specs.Checked.{flags_of, bindings_over, last_bindings, filled_index, Filled}
use Rattle.checks.proofs.Bottom.{store-next, depths-long}
use Rattle.checks.proofs.Fill.{indexed-sets, indexed-so, names-few, types-few, nodes-few, flags_long, flags-get}

-- zeros, one after another
module _ (ix jx : List ℕ) (n x : ℕ) (e : jx ≡ sets ix last_bindings_base (take x (replicate n 0))) where
  pub clear-more : x < n → set jx (last_bindings_base + x) 0 ≡ sets ix last_bindings_base (take (x + 1) (replicate n 0))
  clear-more h =
      ap (λ (l : List ℕ). set l (last_bindings_base + x) 0) e
      ∙ store-next (replicate n 0) ix last_bindings_base x (omega (arith, length-replicate {A = ℕ} n 0)) 0 (sym (get_or-replicate n x 0 0 h))

  pub clear-end : n ≤ x → jx ≡ sets ix last_bindings_base (replicate n 0)
  clear-end h = e ∙ ap (sets ix last_bindings_base) (take_all x (replicate n 0) (omega (arith, length-replicate {A = ℕ} n 0)))

-- what stands in the index after the bindings
over_below : (bs : List Binding) (ix : List ℕ) (k j : ℕ) → j < last_bindings_base → get_or (bindings_over ix k bs) j 0 ≡ get_or ix j 0
unfolding bindings_over
over_below [] ix k j h = refl
over_below (b ∷ bs) ix k j h =
    over_below bs (set ix (last_bindings_base + b.name) (k + 1)) (k + 1) j h
    ∙ sets_below ((k + 1) ∷ []) ix (last_bindings_base + b.name) j 0 (omega arith)

over-at : (bs : List Binding) (ix : List ℕ) (k x : ℕ) → last_bindings_base + x < length ix → get_or (bindings_over ix k bs) (last_bindings_base + x) 0 ≡ last_from (get_or ix (last_bindings_base + x) 0) k bs x
unfolding bindings_over last_from
over-at [] ix k x h = refl
over-at (b ∷ bs) ix k x h =
    let jx : List ℕ = set ix (last_bindings_base + b.name) (k + 1) in
    over-at bs jx (k + 1) x (omega (arith, length-set ix (last_bindings_base + b.name) (k + 1)))
    ∙ by-test (λ (r : ℕ). last_from (get_or jx (last_bindings_base + x) 0) (k + 1) bs x ≡ r) (eqb b.name x)
    (λ q. ap (λ (n : ℕ). last_from n (k + 1) bs x) (same (eqb-true b.name x q)))
    (λ q. ap (λ (n : ℕ). last_from n (k + 1) bs x) (get_or-set_other ix (last_bindings_base + b.name) (last_bindings_base + x) (k + 1) 0 (other (eqb-false b.name x q))))
  where
    same : b.name ≡ x → get_or (set ix (last_bindings_base + b.name) (k + 1)) (last_bindings_base + x) 0 ≡ k + 1
    same q = ap (λ (y : ℕ). get_or (set ix (last_bindings_base + y) (k + 1)) (last_bindings_base + x) 0) q ∙ get_or-set_same ix (last_bindings_base + x) (k + 1) 0 h

    other : (b.name ≡ x → ⊥) → last_bindings_base + x ≡ last_bindings_base + b.name → ⊥
    other d q = d (omega arith)

indexed-over : (f : List ℕ) (bs : List Binding) (ix : List ℕ) (k : ℕ) → Indexed f ix → Indexed f (bindings_over ix k bs)
unfolding bindings_over
indexed-over f [] ix k x = x
indexed-over f (b ∷ bs) ix k x = indexed-over f bs (set ix (last_bindings_base + b.name) (k + 1)) (k + 1) (indexed-sets f ix ((k + 1) ∷ []) (last_bindings_base + b.name) (omega arith) x)

-- the area once the bindings below k are written over index ix
pub record Written (f ix jx : List ℕ) (k : ℕ) : Type 0 where
  pub within : k ≤ length (tables_of f).bindings
  pub indexed : Indexed f jx
  pub long : length jx ≡ length ix
  pub same : bindings_over jx k (drop k (tables_of f).bindings) ≡ bindings_over ix 0 (tables_of f).bindings

pub cleared-length : (ix jx : List ℕ) (n : ℕ) → jx ≡ sets ix last_bindings_base (replicate n 0) → length jx ≡ length ix
cleared-length ix jx n e = ap length e ∙ length-sets ix last_bindings_base (replicate n 0)

pub written_none : (f ix jx : List ℕ) (n : ℕ) → Indexed f ix → jx ≡ sets ix last_bindings_base (replicate n 0) → Written f jx jx 0
written_none f ix jx n x e = record { within = omega arith; indexed = indexed-so f ix jx (replicate n 0) last_bindings_base (omega arith) e x; long = refl; same = refl }

module _ (f ix jx : List ℕ) (k : ℕ) (w : Written f ix jx k) where
  pub written-more : (x : ℕ) → k < length (tables_of f).bindings → x ≡ (binding_at (tables_of f) k).name → Written f ix (set jx (last_bindings_base + x) (k + 1)) (k + 1)
  unfolding bindings_over binding_at
  written-more x h e =
      record {
        within = omega arith;
        indexed = indexed-sets f jx ((k + 1) ∷ []) (last_bindings_base + x) (omega arith) w.indexed;
        long = length-set jx (last_bindings_base + x) (k + 1) ∙ w.long;
        same =
            ap (λ (i : ℕ). bindings_over (set jx (last_bindings_base + x) (k + 1)) (k + 1) (drop i (tables_of f).bindings)) (add-one k)
            ∙ ap (λ (i : ℕ). bindings_over (set jx (last_bindings_base + i) (k + 1)) (k + 1) (drop (suc k) (tables_of f).bindings)) e
            ∙ sym (ap (bindings_over jx k) (drop-cons (tables_of f).bindings k (record { name = 0; slot = Slot.Const 0 }) h))
            ∙ w.same;
      }

  pub written_all : length (tables_of f).bindings ≤ k → (hx : List ℕ) (n : ℕ) → n ≡ length (tables_of f).names → ix ≡ sets hx last_bindings_base (replicate n 0) → jx ≡ last_bindings (tables_of f) hx
  unfolding bindings_over last_bindings
  written_all h hx n m e =
      sym (ap (bindings_over jx k) (drop_of_length-le (tables_of f).bindings h)) ∙ w.same
      ∙ ap (λ (l : List ℕ). bindings_over l 0 (tables_of f).bindings) (e ∙ ap (λ (i : ℕ). sets hx last_bindings_base (replicate i 0)) m)

pub filled : (f ix : List ℕ) → Indexed f ix → children_lower (tables_of f) ≡ true → Filled f (filled_index (tables_of f) ix)
unfolding depth is_constant last_bindings last_binding
filled f ix x lower =
    let T : Tables = tables_of f in
    let a = types-few f ix x in
    let b = nodes-few f ix x in
    let l = depths-long T in
    let m = flags_long T ix lower in
    let n = x.long in
    let jx : List ℕ = sets ix depths_base (depths T) in
    let kx : List ℕ = sets jx constants_base (flags_of T) in
    let zs : List ℕ = replicate (length T.names) 0 in
    let lx : List ℕ = sets kx last_bindings_base zs in
    let long : index_length ≤ length lx = omega (arith, length-sets kx last_bindings_base zs, length-sets jx constants_base (flags_of T), length-sets ix depths_base (depths T)) in
    let kept : (j : ℕ) → j < last_bindings_base → get_or (bindings_over lx 0 T.bindings) j 0 ≡ get_or kx j 0 = λ j h. over_below T.bindings lx 0 j h ∙ sets_below zs kx last_bindings_base j 0 h in
    record {
      indexed = indexed-over f T.bindings lx 0 (indexed-sets f kx zs last_bindings_base (omega arith) (indexed-sets f jx (flags_of T) constants_base (omega arith) (indexed-sets f ix (depths T) depths_base (omega arith) x)));
      depth-at = λ t h.
          let k : depths_base + t < constants_base = omega arith in
          kept (depths_base + t) (omega arith) ∙ sets_below (flags_of T) jx constants_base (depths_base + t) 0 k ∙ sets-in (depths T) ix depths_base t 0 (omega arith) (omega arith);
      constant-at = λ c h.
          kept (constants_base + c) (omega arith) ∙ sets-in (flags_of T) jx constants_base c 0 (omega arith) (omega (arith, length-sets ix depths_base (depths T))) ∙ flags-get T ix lower c;
      last-at = λ y h.
          let g = names-few f ix x in
          over-at T.bindings lx 0 y (omega arith)
          ∙ ap (λ (i : ℕ). last_from i 0 T.bindings y) (sets-in zs kx last_bindings_base y 0 (omega (arith, length-replicate {A = ℕ} (length T.names) 0)) (omega (arith, length-sets kx last_bindings_base zs)) ∙ get_or-replicate (length T.names) y 0 0 h);
    }
