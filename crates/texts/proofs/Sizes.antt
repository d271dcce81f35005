-- Texts, their lengths up to the cap, and how they are put.
use mathlib.Core.Bool.{Bool, true, false}
use mathlib.Core.List.{List, [], ◌∷◌, ◌++◌}
use mathlib.Core.Path.{◌≡◌, refl, sym, ap, ◌∙◌}
use Prim.Native.Nat.{ℕ, ◌+◌, ◌≤◌, ◌<◌, min}
use native.Mathlib.Omega.{arith}
use borrow.Author.Tests.{leb-true, leb-false}
use lib.Dec.{leb}
use Rattle.std.specs.Prelude.{None, Some, Option, unwrap_or}
use lib.ListN.{length, length-append, get_or-eq_default}
use Rattle.rules.specs.Base.{◌when_some◌}
use Rattle.rules.specs.File.{Tables, name_at}
use Rattle.rules.specs.Constant as ConstantRules
use Rattle.rules.specs.Constant.{bytes_only, encode_prefix, escape}
use Rattle.rules.specs.Placement.{RangeEdge}
use Rattle.rules.specs.Plan as Plan
use Rattle.rules.specs.Plan.{u16}
use Rattle.rules.proofs.Cases.{ways}
use Rattle.constant.specs.Sizes.{cap, size_with, const_view, size_of}
use Rattle.constant.specs.declared.Const.{Const}
use Rattle.constant.specs.declared.Const.TheVariants as Co
use Rattle.constant.proofs.Measured.{only-const}
use Rattle.encode.specs.Written.{bytes_of, or_empty, RoomForBytes, Wrote}
use Rattle.encode.proofs.Puts.{wrote_one, wrote_then, wrote_as}
use Rattle.records.specs.Records.{put}
use Rattle.seek.specs.Seek.{constant_bytes, edge_of}
use Rattle.seek.specs.declared.Edge.{Edge}
use Rattle.texts.proofs.Past.{node-past}

number : Option ℕ → ℕ
number None = 0
number (Some k) = k

-- the length that a constant carries
abbrev pub carried : Option Const → ℕ
carried None = 0
carried (Some (Co.Bytes n t k)) = k
carried (Some (Co.Prefix x)) = 0
carried (Some (Co.Fuzzy x d a)) = 0

carried-size : (c : Option Const) → carried c ≡ number (size_of c)
unfolding number
carried-size None = refl
carried-size (Some (Co.Bytes n t k)) = refl
carried-size (Some (Co.Prefix x)) = refl
carried-size (Some (Co.Fuzzy x d a)) = refl

sized : (o : Option (List ℕ)) → number (size_with 0 o) ≡ min cap (length (unwrap_or o []))
unfolding number size_with
sized None = refl
sized (Some bytes) = let e : min cap (0 + length bytes) ≡ min cap (length bytes) = omega arith in e

or-empty : (o : Option (List ℕ)) → or_empty o ≡ unwrap_or o []
unfolding or_empty
or-empty None = refl
or-empty (Some bytes) = refl

there : (o : Option (List ℕ)) → (length (unwrap_or o []) ≡ 0 → ⊥) → o ≡ Some (or_empty o)
unfolding or_empty
there None h = absurd (h refl)
there (Some bytes) h = refl

-- nothing but the empty list has length 0
empty : (l : List ℕ) → length l ≡ 0 → l ≡ []
empty [] e = refl
empty (x ∷ l) e = absurd (omega arith)

module _ (T : Tables) (n t : ℕ) where
  pub bytes-size : (c : Option Const) (k : ℕ) → c ≡ const_view T n t → k ≡ carried c → k ≡ min cap (length (constant_bytes T n t))
  unfolding constant_bytes
  bytes-size c k e q = q ∙ carried-size c ∙ ap number (only-const T n t c (size_of c) e refl) ∙ sized (ConstantRules.constant T n t when_some bytes_only)

  same_bytes_lem : or_empty (bytes_of T n t) ≡ constant_bytes T n t
  unfolding bytes_of constant_bytes
  same_bytes_lem = or-empty (ConstantRules.constant T n t when_some bytes_only)

  module _ (k : ℕ) (ek : k ≡ min cap (length (constant_bytes T n t))) where
    pub node_in_lem : (k ≡ 0 → ⊥) → n < length T.nodes
    node_in_lem h = ways (leb (length T.nodes) n) (n < length T.nodes)
        (λ q. absurd (h (ek ∙ sym (bytes-size None 0 (node-past T n t (leb-true (length T.nodes) n q)) refl))))
        (λ q. leb-false (length T.nodes) n q)

    module _ (at : ℕ) (h : length (constant_bytes T n t) ≤ cap) where
      pub here : (k ≡ 0 → ⊥) → at ≤ 1048576 → RoomForBytes (bytes_of T n t) (at + 2)
      unfolding bytes_of constant_bytes
      here z b = record {
        is = there (ConstantRules.constant T n t when_some bytes_only) (λ q. z (let e : k ≡ 0 = omega (arith, ek, q) in e));
        room = omega (arith, b, h, ap length (or-empty (ConstantRules.constant T n t when_some bytes_only)));
      }

      module _ (w w1 : List ℕ) (e1 : w1 ≡ put w at (u16 k)) where
        headed : Wrote (u16 (length (constant_bytes T n t))) at w (at + 2) w1
        unfolding u16
        headed = record { place = refl; is = e1 ∙ ap (λ (x : ℕ). put w at (u16 x)) (let e : k ≡ length (constant_bytes T n t) = omega arith in e) }

        pub empty-text : k ≡ 0 → Wrote (Plan.text (constant_bytes T n t)) at w (at + 2) w1
        unfolding Plan.text u16
        empty-text z = wrote_as (u16 (length (constant_bytes T n t))) (Plan.text (constant_bytes T n t)) at (at + 2) w w1 headed
            (ap (λ (l : List ℕ). u16 (length (constant_bytes T n t)) ++ l) (sym (empty (constant_bytes T n t) (omega arith))))

        pub whole-text : (r : ℕ) (w2 : List ℕ) → Wrote (or_empty (bytes_of T n t)) (at + 2) w1 r w2 → Wrote (Plan.text (constant_bytes T n t)) at w r w2
        unfolding Plan.text
        whole-text r w2 a = wrote_then headed (wrote_as (or_empty (bytes_of T n t)) (constant_bytes T n t) (at + 2) r w1 w2 a same_bytes_lem)

-- edges
module _ (T : Tables) (e : Edge) where
  value : List ℕ
  value = constant_bytes T e.node e.ty

  edged : Bool → Option RangeEdge
  edged b = elim b [ true ↦ Some (record { value = value; inclusive = e.inclusive }) | false ↦ None ]

  edge-is : (b : Bool) → e.set ≡ b → Plan.edge (edged b) ≡ Plan.edge (edge_of T e)
  unfolding edge_of edged value
  edge-is b q = ap (λ (x : Bool). Plan.edge (edged x)) (sym q)

  set_is : e.set ≡ true → Plan.inclusive e.inclusive ∷ Plan.text value ≡ Plan.edge (edge_of T e)
  unfolding edged Plan.edge
  set_is q = edge-is true q

  unset-is : e.set ≡ false → 0 ∷ [] ≡ Plan.edge (edge_of T e)
  unfolding edged Plan.edge
  unset-is q = edge-is false q

  three-more : length (Plan.inclusive e.inclusive ∷ Plan.text value) ≡ 3 + length value
  unfolding Plan.text u16
  three-more = omega (arith, length-append (u16 (length value)) value)

  pub edge-size : (k r : ℕ) → e.set ≡ true → k ≡ min cap (length (constant_bytes T e.node e.ty)) → r ≡ min cap (3 + k) → r ≡ min cap (length (Plan.edge (edge_of T e)))
  unfolding value
  edge-size k r q ek er = omega (arith, ek, er, three-more, ap length (set_is q))

  pub unset-size : e.set ≡ false → 1 ≡ min cap (length (Plan.edge (edge_of T e)))
  unset-size q = let l : 1 ≡ length (Plan.edge (edge_of T e)) = ap length (unset-is q) in omega arith

  pub value-small : e.set ≡ true → length (Plan.edge (edge_of T e)) ≤ cap → length (constant_bytes T e.node e.ty) ≤ cap
  unfolding value
  value-small q h = omega (arith, h, three-more, ap length (set_is q))

  module _ (at r : ℕ) (w w1 : List ℕ) where
    pub put-unset : e.set ≡ false → w1 ≡ put w at (0 ∷ []) → Wrote (Plan.edge (edge_of T e)) at w (at + 1) w1
    put-unset q p = wrote_as (0 ∷ []) (Plan.edge (edge_of T e)) at (at + 1) w w1 (wrote_one 0 at (at + 1) w w1 refl p) (unset-is q)

    pub put-set : (b : ℕ) (w2 : List ℕ) → e.set ≡ true → b ≡ Plan.inclusive e.inclusive → w1 ≡ put w at (b ∷ []) → Wrote (Plan.text (constant_bytes T e.node e.ty)) (at + 1) w1 r w2 → Wrote (Plan.edge (edge_of T e)) at w r w2
    unfolding value
    put-set b w2 q eb p a =
        wrote_as ((Plan.inclusive e.inclusive ∷ []) ++ Plan.text value) (Plan.edge (edge_of T e)) at r w w2
        (wrote_then (wrote_one (Plan.inclusive e.inclusive) at (at + 1) w w1 refl (p ∙ ap (λ (x : ℕ). put w at (x ∷ [])) eb)) a) (set_is q)

-- a name's prefix
module _ (T : Tables) (x : ℕ) where
  prefix : List ℕ
  prefix = encode_prefix (name_at T x)

  pub text-size : (k : ℕ) → k ≡ length (encode_prefix (name_at T x)) → 2 + k ≡ length (Plan.text (encode_prefix (name_at T x)))
  unfolding Plan.text u16
  text-size k e = omega (arith, e, length-append (u16 (length (encode_prefix (name_at T x)))) (encode_prefix (name_at T x)))

  past-prefix : length T.names ≤ x → encode_prefix (name_at T x) ≡ 3 ∷ []
  unfolding encode_prefix name_at escape
  past-prefix h = ap encode_prefix (get_or-eq_default T.names [] h)

  pub past-size : length T.names ≤ x → 3 ≡ length (Plan.text (encode_prefix (name_at T x)))
  unfolding Plan.text u16
  past-size h = ap (λ (l : List ℕ). length (Plan.text l)) (sym (past-prefix h))

  module _ (at k : ℕ) (w w1 w2 : List ℕ) (e1 : w1 ≡ put w at (u16 k)) where
    pub put-name : (r : ℕ) → k ≡ length (encode_prefix (name_at T x)) → Wrote (encode_prefix (name_at T x)) (at + 2) w1 r w2 → Wrote (Plan.text (encode_prefix (name_at T x))) at w r w2
    unfolding Plan.text u16
    put-name r e a = wrote_then (record { place = refl; is = e1 ∙ ap (λ (n : ℕ). put w at (u16 n)) e }) a

    pub put-past : length T.names ≤ x → k ≡ 1 → w2 ≡ put w1 (at + 2) (3 ∷ []) → Wrote (Plan.text (encode_prefix (name_at T x))) at w (at + 3) w2
    unfolding Plan.text u16
    put-past h e e2 =
        wrote_as (u16 1 ++ (3 ∷ [])) (Plan.text (encode_prefix (name_at T x))) at (at + 3) w w2
        (wrote_then (record { place = refl; is = e1 ∙ ap (λ (n : ℕ). put w at (u16 n)) e }) (record { place = omega arith; is = e2 }))
        (ap Plan.text (sym (past-prefix h)))
