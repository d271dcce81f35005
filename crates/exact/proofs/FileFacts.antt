-- What the reading and the checks of an accepted file of bytes give.
use mathlib.Core.Bool.{Bool, true, false}
use mathlib.Core.List.{List, [], ◌∷◌, map}
use Rattle.std.specs.Prelude.{Option, None, Some}
use mathlib.Core.Path.{◌≡◌, refl, sym, ap, ◌∙◌, subst}
use Prim.Native.Nat.{ℕ, ◌<◌, ◌≤◌}
use lib.ListN.{length, get_or, get_or-eq_default}
use lib.Dec.{eqb}
use Rattle.rules.specs.Base.{Each, done, first, distinct, last_or}
use Rattle.rules.specs.File.{Tables, Alternative, Ty, Node, Slot, Binding, type_at, node_at, child_types, is_constant}
use Rattle.rules.specs.Read.{got, file}
use Rattle.rules.specs.Checks.{type_distinct, types_distinct, slot_constant, consts_constant, checks, fault}
use Rattle.rules.specs.Constant.{alternative_of, lookup}
use Rattle.rules.specs.Demand1.{Byte}
use Rattle.rules.proofs.Cases.{by-test, by_order, true≢false, some≢none, some-injective, bind-some, both_right, eqb-eq}
use Rattle.rules.proofs.Each.{each-passes, each-imply, each-get_or, each_last}
use Rattle.rules.proofs.Sound.{Passed, passed-all, Sound, sound}
use Rattle.rules.proofs.Numbers.{TypeNumbers, NodeNumbers, Bounded, bounded}
use Rattle.exact.proofs.Accepts.{Facts}
use borrow.Author.Tests.{eq-eqb}

-- an Int's eight bytes
ints : (T : Tables) → Bounded T → (n : ℕ) (bytes : List ℕ) → node_at T n ≡ Node.Int bytes → (length bytes ≡ 8) × Each Byte bytes
unfolding node_at
ints T b n bytes e =
    let h : NodeNumbers (get_or T.nodes n Node.Error) = each-get_or n b.nodes tt in
    let k = subst NodeNumbers e h in
    (k.count, k.each)

discs : (T : Tables) → Bounded T → (t : ℕ) (alts : List Alternative) → type_at T t ≡ Ty.Union alts → Each (λ (a : Alternative). a.disc < 4294967296) alts
unfolding type_at
discs T b t alts e =
    let h : TypeNumbers (get_or T.types t Ty.Int) = each-get_or t b.types tt in
    subst TypeNumbers e h

-- no disc stands twice, so the first of its disc is the one at hand
first-none : (d : ℕ) (alts : List Alternative) → first (eqb d) (map (λ (a : Alternative). a.disc) alts) ≡ None → (a : Alternative) (x : ℕ) → first (λ (b : Alternative). eqb b.name x) alts ≡ Some a → a.disc ≡ d → ⊥
unfolding first
first-none d [] e a x q k = some≢none a (sym q)
first-none d (c ∷ alts) e a x q k =
    by-test (λ (o : Option ℕ). o ≡ None → ⊥) (eqb d c.disc) (λ t z. some≢none _ z)
    (λ t z.
    by-test (λ (o : Option Alternative). o ≡ Some a → ⊥) (eqb c.name x)
    (λ s y. true≢false (sym (eq-eqb d c.disc (sym (ap (λ (b : Alternative). b.disc) (some-injective c a y) ∙ k))) ∙ t))
    (λ s y. first-none d alts z a x y k) q) e

once-in : (alts : List Alternative) → distinct (map (λ (a : Alternative). a.disc) alts) ≡ true → (x : ℕ) (a : Alternative) → first (λ (b : Alternative). eqb b.name x) alts ≡ Some a → first (λ (b : Alternative). eqb b.disc a.disc) alts ≡ Some a
unfolding first distinct
once-in [] h x a e = absurd (some≢none a (sym e))
once-in (c ∷ alts) h x a e = go (eqb c.name x) refl (eqb c.disc a.disc) refl (first (eqb c.disc) (map (λ (b : Alternative). b.disc) alts)) refl (once-in alts)
  where
    go : (s : Bool) → eqb c.name x ≡ s → (t : Bool) → eqb c.disc a.disc ≡ t → (o : Option ℕ) → first (eqb c.disc) (map (λ (b : Alternative). b.disc) alts) ≡ o
        → (distinct (map (λ (b : Alternative). b.disc) alts) ≡ true → (y : ℕ) (b : Alternative) → first (λ (z : Alternative). eqb z.name y) alts ≡ Some b → first (λ (z : Alternative). eqb z.disc b.disc) alts ≡ Some b)
        → first (λ (b : Alternative). eqb b.disc a.disc) (c ∷ alts) ≡ Some a
    go s p t q (Some j) r ih = absurd (true≢false (sym (ap (λ (o : Option ℕ). elim o as (λ _. Bool) [ None ↦ distinct (map (λ (b : Alternative). b.disc) alts) | Some y ↦ false ]) (sym r) ∙ h)))
    go true p true q None r ih =
        ap (λ (b : Bool). elim b as (λ _. Option Alternative) [ true ↦ Some c | false ↦ first (λ (z : Alternative). eqb z.disc a.disc) alts ]) q
        ∙ sym (ap (λ (b : Bool). elim b as (λ _. Option Alternative) [ true ↦ Some c | false ↦ first (λ (z : Alternative). eqb z.name x) alts ]) p) ∙ e
    go true p false q None r ih =
        let same : c ≡ a = some-injective c a (sym (ap (λ (b : Bool). elim b as (λ _. Option Alternative) [ true ↦ Some c | false ↦ first (λ (z : Alternative). eqb z.name x) alts ]) p) ∙ e) in
        absurd (true≢false (sym (eq-eqb c.disc a.disc (ap (λ (b : Alternative). b.disc) same)) ∙ q))
    go false p true q None r ih =
        absurd (first-none c.disc alts r a x
        (sym (ap (λ (b : Bool). elim b as (λ _. Option Alternative) [ true ↦ Some c | false ↦ first (λ (z : Alternative). eqb z.name x) alts ]) p) ∙ e) (sym (eqb-eq c.disc a.disc q)))
    go false p false q None r ih =
        ap (λ (b : Bool). elim b as (λ _. Option Alternative) [ true ↦ Some c | false ↦ first (λ (z : Alternative). eqb z.disc a.disc) alts ]) q
        ∙ ih (sym (ap (λ (o : Option ℕ). elim o as (λ _. Bool) [ None ↦ distinct (map (λ (b : Alternative). b.disc) alts) | Some y ↦ false ]) r) ∙ h) x a
        (sym (ap (λ (b : Bool). elim b as (λ _. Option Alternative) [ true ↦ Some c | false ↦ first (λ (z : Alternative). eqb z.name x) alts ]) p) ∙ e)

once : (T : Tables) → Passed T → (t : ℕ) (alts : List Alternative) → type_at T t ≡ Ty.Union alts → (x : ℕ) (a : Alternative) → alternative_of alts x ≡ Some a → first (λ (b : Alternative). eqb b.disc a.disc) alts ≡ Some a
unfolding type_at types_distinct type_distinct alternative_of
once T p t alts e x a q =
    let h : type_distinct (get_or T.types t Ty.Int) ≡ true = each-get_or t (each-passes type_distinct T.types p.distinct) refl in
    once-in alts (both_right (distinct (map (λ (b : Alternative). b.name) alts)) _ (ap type_distinct (sym e) ∙ h)) x a q

lower : (T : Tables) → Sound T → (t : ℕ) → Each (λ c. c < t) (child_types (type_at T t))
lower T S t =
    by_order t (length T.types) (λ l. each-imply (λ c h. h.lower) (S.children t l))
    (λ l. subst (λ (u : Ty). Each (λ c. c < t) (child_types u)) (sym (past l)) (none_below tt))
  where
    past : length T.types ≤ t → type_at T t ≡ Ty.Int
    past l = unfold type_at in get_or-eq_default T.types Ty.Int l

    none_below : Unit {0} → Each (λ c. c < t) (child_types Ty.Int)
    none_below _ = unfold child_types in done

consts : (T : Tables) → Passed T → (x c : ℕ) → lookup T.bindings x ≡ Some (Slot.Const c) → is_constant T c ≡ true
unfolding lookup consts_constant slot_constant
consts T p x c e =
    let r = bind-some (last_or None (λ (b : Binding). eqb b.name x) T.bindings) (λ b. Some b.slot) (Slot.Const c) e in
    subst (λ (s : Slot). slot_constant T s ≡ true) (some-injective r.0.slot (Slot.Const c) r.2)
    (each_last (λ (b : Binding). eqb b.name x) None (λ b q. absurd (some≢none b (sym q))) (each-passes (λ (b : Binding). slot_constant T b.slot) T.bindings p.consts) r.0 r.1)

pub file-facts : (bytes : List ℕ) → Each Byte bytes → (T : Tables) → file bytes ≡ got T [] → fault checks T ≡ None → Facts T
file-facts bytes h T e f =
    let b = bounded bytes h T [] e in
    let p = passed-all T f in
    record { ints = ints T b; discs = discs T b; once = once T p; lower = lower T (sound T p); consts = consts T p }
