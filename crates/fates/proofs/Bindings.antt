-- The file's bindings in turn: which is a Const that is a Record, and what is remembered of it.
use Prim.Native.Nat.{ℕ, suc, ◌+◌, ◌≤◌, ◌<◌}
use mathlib.Core.Bool.{Bool, true, false}
use mathlib.Core.List.{List, [], ◌∷◌}
use Rattle.std.specs.Prelude.{Option, None, Some}
use mathlib.Core.Path.{◌≡◌, refl, sym, ap, ◌∙◌, subst}
use types.Run.{OneOf}
use denote.Enum.Declared.{tag_of}
use native.Mathlib.Omega.{arith}
use native.Mathlib.Numerals.{add-one}
use lib.ListN.{length, drop, length-drop}
use lib.Seq.{sets, length-sets, drop-cons}
use Rattle.rules.specs.Base.{◌when_some◌}
use Rattle.rules.specs.File.{Tables, Binding, FieldPattern, node_at, record_fields}
use Rattle.rules.specs.Constant.{const_node}
use Rattle.views.specs.Views.{pattern_at, binding_at, SeenBinding}
use Rattle.views.specs.declared.BindingView.{BindingView}
use Rattle.views.specs.declared.SlotView.TheVariants as Sv
use Rattle.views.specs.contracts.SlotView as SlotViews
use Rattle.tables.specs.Tables.{SeenRun, SeenSlot}
use Rattle.tables.proofs.Searches.{last-slot, const-is, const-not}
use Rattle.accepted_file.specs.Fates.{long_length}
use Rattle.fates.specs.Rows.{const_record, Kept, kept, with_part, with_binding, with_bindings, any_record}
use Rattle.fates.proofs.Parts.{index_size, part_length}

-- a Const's Record, as the code sees it
module _ (f : List ℕ) (T : Tables) (b : Binding) (v : BindingView) (s : SeenBinding f b v) where
  seen : SeenSlot f (Some b.slot) (Some v.slot)
  seen = last-slot f (Some b.slot) b v s refl

  const-of : (n : ℕ) → v.slot ≡ Sv.Const n → Some n ≡ const_node b.slot
  unfolding ◌when_some◌
  const-of n e = const-is f (Some b.slot) (Some v.slot) seen v.slot refl n e

  abbrev by-record : ℕ → Option (List FieldPattern) → Option ℕ
  by-record n o = elim o [ None ↦ None | Some fields ↦ Some n ]

  abbrev by-const : Option ℕ → Option ℕ
  by-const o = elim o [ None ↦ None | Some n ↦ by-record n (record_fields (node_at T n)) ]

  pub no_const : OneOf (0 ∷ 1 ∷ 2 ∷ 3 ∷ 4 ∷ []) (tag_of SlotViews.the_type v.slot) → None ≡ const_record T b
  unfolding const_record ◌when_some◌
  no_const w = ap by-const (const-not f (Some b.slot) (Some v.slot) seen v.slot refl w)

  module _ (n : ℕ) (e : v.slot ≡ Sv.Const n) (r : Option (ℕ × ℕ)) (p : SeenRun f (pattern_at f) 4 (record_fields (node_at T n)) r) where
    pub a-record : (k at : ℕ) → r ≡ Some (k, at) → Some n ≡ const_record T b
    unfolding const_record
    a-record k at q = ap (by-record n) (subst (SeenRun f (pattern_at f) 4 (record_fields (node_at T n))) q p).is ∙ ap by-const (const-of n e)

    pub no_record_lem : r ≡ None → None ≡ const_record T b
    unfolding const_record
    no_record_lem q = ap (by-record n) (subst (SeenRun f (pattern_at f) 4 (record_fields (node_at T n))) q p).is ∙ ap by-const (const-of n e)

none_left : {A : Type 0} (l : List A) → length l ≤ 0 → l ≡ []
none_left [] h = refl
none_left (x ∷ l) h = absurd (omega arith)

-- none of the first k is one
pub record Searched (T : Tables) (k : ℕ) : Type 0 where
  pub low : k ≤ length T.bindings
  pub is : any_record T T.bindings ≡ any_record T (drop k T.bindings)

module _ (T : Tables) where
  pub searched-none : Searched T 0
  searched-none = record { low = omega arith; is = refl }

  module _ (k : ℕ) (s : Searched T k) where
    abbrev turn : Option ℕ → Bool
    turn o = elim o [ None ↦ any_record T (drop (k + 1) T.bindings) | Some n ↦ true ]

    next : k < length T.bindings → any_record T T.bindings ≡ turn (const_record T (binding_at T k))
    unfolding any_record binding_at
    next h =
        s.is ∙ ap (any_record T) (drop-cons T.bindings k _ h)
        ∙ ap (λ (i : ℕ). ◌when_none◌ (const_record T (binding_at T k)) (any_record T (drop i T.bindings))) (sym (add-one k))
      where
        ◌when_none◌ : Option ℕ → Bool → Bool
        ◌when_none◌ o r = elim o [ None ↦ r | Some n ↦ true ]

    pub searched-more : k < length T.bindings → None ≡ const_record T (binding_at T k) → Searched T (k + 1)
    searched-more h e = record { low = omega arith; is = next h ∙ ap turn (sym e) }

    pub searched-found : k < length T.bindings → (n : ℕ) → Some n ≡ const_record T (binding_at T k) → true ≡ any_record T T.bindings
    searched-found h n e = sym (next h ∙ ap turn (sym e))

    pub searched-all : length T.bindings ≤ k → false ≡ any_record T T.bindings
    unfolding any_record
    searched-all h = sym (s.is ∙ ap (any_record T) (none_left (drop k T.bindings) (omega (arith, length-drop k T.bindings))))

-- one binding
module _ (T : Tables) (b : Binding) (s : Kept) where
  pub binding-none : None ≡ const_record T b → s ≡ with_binding T b s
  unfolding with_binding
  binding-none e = ap (λ (o : Option ℕ). elim o [ None ↦ s | Some n ↦ with_part T n s ]) e

  pub binding-part : (n : ℕ) → Some n ≡ const_record T b → with_part T n s ≡ with_binding T b s
  unfolding with_binding
  binding-part n e = ap (λ (o : Option ℕ). elim o [ None ↦ s | Some m ↦ with_part T m s ]) e

binding-length : (T : Tables) (b : Binding) (s : Kept) → length (with_binding T b s).index ≡ length s.index
unfolding with_binding
binding-length T b s = go (const_record T b)
  where
    go : (o : Option ℕ) → index_size (elim o [ None ↦ s | Some n ↦ with_part T n s ]) ≡ length s.index
    go None = refl
    go (Some n) = part_length T n s

bindings-length : (T : Tables) (bs : List Binding) (s : Kept) → length (with_bindings T bs s).index ≡ length s.index
unfolding with_bindings
bindings-length T [] s = refl
bindings-length T (b ∷ bs) s = bindings-length T bs (with_binding T b s) ∙ binding-length T b s

-- the first b bindings are remembered, from s₀ on
pub record Remembers (T : Tables) (s₀ s : Kept) (b : ℕ) : Type 0 where
  pub low : b ≤ length T.bindings
  pub long : length s.index ≡ long_length
  pub is : with_bindings T T.bindings s₀ ≡ with_bindings T (drop b T.bindings) s

module _ (T : Tables) (s₀ : Kept) where
  pub remembers-none : length s₀.index ≡ long_length → Remembers T s₀ s₀ 0
  remembers-none l = record { low = omega arith; long = l; is = refl }

  module _ (s : Kept) (b : ℕ) (R : Remembers T s₀ s b) where
    pub remembers-more : b < length T.bindings → (r : Kept) → r ≡ with_binding T (binding_at T b) s → Remembers T s₀ r (b + 1)
    unfolding with_bindings binding_at
    remembers-more h r e =
        record {
          low = omega arith;
          long = ap (λ (x : Kept). length x.index) e ∙ binding-length T (binding_at T b) s ∙ R.long;
          is =
              R.is ∙ ap (λ (bs : List Binding). with_bindings T bs s) (drop-cons T.bindings b _ h)
              ∙ ap (with_bindings T (drop (suc b) T.bindings)) (sym e)
              ∙ ap (λ (i : ℕ). with_bindings T (drop i T.bindings) r) (sym (add-one b));
        }

    pub remembers-all : length T.bindings ≤ b → s ≡ with_bindings T T.bindings s₀
    unfolding with_bindings
    remembers-all h = sym (R.is ∙ ap (λ (bs : List Binding). with_bindings T bs s) (none_left (drop b T.bindings) (omega (arith, length-drop b T.bindings))))

-- the index in front
pub front_length : (ix long sx : List ℕ) → sx ≡ sets long 0 ix → length long ≡ long_length → length sx ≡ long_length
front_length ix long sx e l = ap length e ∙ length-sets long 0 ix ∙ l

pub bound-long : (T : Tables) (fx sx : List ℕ) (k : ℕ) → kept k sx ≡ with_bindings T T.bindings (kept 0 fx) → length fx ≡ long_length → length sx ≡ long_length
bound-long T fx sx k e l = ap (λ (x : Kept). length x.index) e ∙ bindings-length T T.bindings (kept 0 fx) ∙ l
