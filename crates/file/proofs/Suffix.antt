-- What is left after a reading is an end of what was there before.
use Prim.Native.Nat.{ℕ, zero, suc, ◌+◌, ◌-◌, ◌≤◌, ◌<◌}
use mathlib.Core.Path.{◌≡◌, refl, sym, ap, ◌∙◌, subst}
use mathlib.Core.Bool.{Bool, true, false}
use mathlib.Core.List.{List, [], ◌∷◌}
use native.Mathlib.Omega.{arith}
use lib.Dec.{leb}
use lib.ListN.{length, get_or, drop, length-drop}
use lib.Seq.{drop-drop}
use Rattle.rules.specs.Utf8.{UTF8-octets}
use Rattle.rules.specs.Read.{Read, Reader, ◌>>=◌, pure, refuse, u8, u16, u32, optional, many, several, kind, section, well_formed, name, field_ty, alternative, fact_ty, record_ty, union_ty, type, predicate, anchor, field_pattern, one, two, int_node, bytes_node, fuzzy_node, record_node, node, path, row_slot, key_slot, derived_slot, field_slot, value_slot, const_slot, slot, binding, hoisted, fetched, constraint, op, comparison, level}
use Rattle.rules.specs.Read.Read.{got, refused}
use Rattle.file.specs.Steps.{step_of, read_at, step_at, skim, record_readers, record_of, limit_of, section_of}
use Rattle.file.proofs.Readers.{refused-got, refused-next, bind_inv}
use Rattle.std.specs.Prelude.{Result, Ok, Err}

-- rest is l without its first elements
pub record End (l rest : List ℕ) : Type 0 where
  pub skipped : ℕ
  pub within : skipped ≤ length l
  pub is : rest ≡ drop skipped l

pub end-all : (l : List ℕ) → End l l
end-all l = record { skipped = 0; within = omega arith; is = refl }

pub end-end : {l m rest : List ℕ} → End l m → End m rest → End l rest
end-end {l} {m} {rest} x y =
    record {
      skipped = x.skipped + y.skipped;
      within = omega (arith, ap length x.is, length-drop x.skipped l, x.within, y.within);
      is = y.is ∙ ap (drop y.skipped) x.is ∙ drop-drop y.skipped x.skipped l;
    }

-- within a list, what stands past its end is of no matter
pub get_or-in : {A : Type 0} (l : List A) (k : ℕ) (d e : A) → k < length l → get_or l k d ≡ get_or l k e
get_or-in [] k d e h = absurd (omega arith)
get_or-in (x ∷ l) zero d e h = refl
get_or-in (x ∷ l) (suc k) d e h = get_or-in l k d e (omega arith)

pub record Suffix {A : Type 0} (r : Reader A) : Type 0 where
  pub left : (l : List ℕ) (a : A) (rest : List ℕ) → r l ≡ got a rest → End l rest

rest_of : {A : Type 0} {a b : A} {l m : List ℕ} → got a l ≡ got b m → l ≡ m
rest_of {A} {a} {b} {l} {m} e = cc

pub suffix-pure : {A : Type 0} (a : A) → Suffix (pure a)
unfolding pure
suffix-pure a = record { left = λ l b rest e. subst (λ (m : List ℕ). End l m) (rest_of e) (end-all l) }

pub suffix-refuse : {A : Type 0} (n : ℕ) → Suffix {A = A} (refuse n)
unfolding refuse
suffix-refuse n = record { left = λ l b rest e. absurd (refused-got e) }

pub suffix-bind : {A B : Type 0} {r : Reader A} {k : A → Reader B} → Suffix r → ((a : A) → Suffix (k a)) → Suffix (r >>= k)
suffix-bind {A} {B} {r} {k} x y =
    record {
      left = λ l b rest e.
          let w = bind_inv r k l b rest e in
          end-end (x.left l w.value w.after w.first) ((y w.value).left w.after b rest w.then);
    }

pub suffix-u8 : Suffix u8
unfolding u8
suffix-u8 = record { left = go }
  where
    go : (l : List ℕ) (a : ℕ) (rest : List ℕ) → u8 l ≡ got a rest → End l rest
    go [] a rest e = absurd (refused-got e)
    go (b ∷ l) a rest e = record { skipped = 1; within = omega arith; is = sym (rest_of e) }

pub suffix-many : {A : Type 0} {r : Reader A} → Suffix r → (n : ℕ) → Suffix (many n r)
unfolding many
suffix-many x zero = suffix-pure _
suffix-many x (suc n) = suffix-bind x (λ a. suffix-bind (suffix-many x n) (λ as'. suffix-pure _))

pub suffix-several : {A : Type 0} {r : Reader A} → Suffix r → Suffix (several r)
unfolding several
suffix-several x = suffix-bind suffix-u8 (λ n. suffix-many x n)

pub record Suffixes {A : Type 0} (rs : List (Reader A)) : Type 0 where
  pub each : (k : ℕ) → Suffix (get_or rs k (refuse 5))

pub suffixes-none : {A : Type 0} → Suffixes {A = A} []
suffixes-none = record { each = λ k. suffix-refuse 5 }

pub suffixes-more : {A : Type 0} {r : Reader A} {rs : List (Reader A)} → Suffix r → Suffixes rs → Suffixes (r ∷ rs)
suffixes-more {A} {r} {rs} x xs = record { each = go }
  where
    go : (k : ℕ) → Suffix (get_or (r ∷ rs) k (refuse 5))
    go zero = x
    go (suc k) = xs.each k

pub suffix-kind : {A : Type 0} {rs : List (Reader A)} → Suffixes rs → Suffix (kind rs)
unfolding kind
suffix-kind xs = suffix-bind suffix-u8 (λ k. xs.each k)

suffix-if : {A : Type 0} (b : Bool) {r s : Reader A} → Suffix r → Suffix s → Suffix {A = A} (elim b as (λ _. Reader A) [ true ↦ r | false ↦ s ])
suffix-if true x y = x
suffix-if false x y = y

pub suffix-u16 : Suffix u16
unfolding u16
suffix-u16 = suffix-bind suffix-u8 (λ lo. suffix-bind suffix-u8 (λ hi. suffix-pure _))

pub suffix-u32 : Suffix u32
unfolding u32
suffix-u32 = suffix-bind suffix-u16 (λ lo. suffix-bind suffix-u16 (λ hi. suffix-pure _))

pub suffix-optional : Suffix optional
unfolding optional
suffix-optional = suffix-bind suffix-u16 (λ n. suffix-pure _)

pub suffix-section : {A : Type 0} {r : Reader A} → (limit : ℕ) → Suffix r → Suffix (section limit r)
unfolding section
suffix-section {A} {r} limit x = suffix-bind suffix-u16 (λ n. suffix-if (leb n limit) (suffix-many x n) (suffix-refuse _))

pub suffix-skim : {A : Type 0} {r : Reader A} → Suffix r → Suffix (skim r)
unfolding skim
suffix-skim x = suffix-bind x (λ a. suffix-pure _)

-- one, two or three numbers, and what is made of them
pub suffix-one : {A B : Type 0} {r : Reader A} (k : A → B) → Suffix r → Suffix (r >>= λ a. pure (k a))
suffix-one k x = suffix-bind x (λ a. suffix-pure (k a))

pub suffix-two : {A B C : Type 0} {r : Reader A} {s : Reader B} (k : A → B → C) → Suffix r → Suffix s → Suffix (r >>= λ a. s >>= λ b. pure (k a b))
suffix-two k x y = suffix-bind x (λ a. suffix-one (k a) y)

pub suffix-three : {A B C D : Type 0} {r : Reader A} {s : Reader B} {t : Reader C} (k : A → B → C → D) → Suffix r → Suffix s → Suffix t → Suffix (r >>= λ a. s >>= λ b. t >>= λ c. pure (k a b c))
suffix-three k x y z = suffix-bind x (λ a. suffix-two (k a) y z)

pub suffix-name : Suffix name
unfolding name well_formed
suffix-name = suffix-bind (suffix-several suffix-u8) (λ bytes. suffix-if (UTF8-octets bytes) (suffix-pure _) (suffix-refuse _))

pub suffix-type : Suffix type
unfolding type fact_ty record_ty union_ty field_ty alternative
suffix-type =
    suffix-kind
    (suffixes-more (suffix-pure _)
    (suffixes-more (suffix-pure _)
    (suffixes-more (suffix-pure _)
    (suffixes-more (suffix-one _ suffix-u16)
    (suffixes-more (suffix-one _ (suffix-several (suffix-two _ suffix-u16 suffix-u16)))
    (suffixes-more (suffix-one _ (suffix-several (suffix-three _ suffix-u16 suffix-u32 suffix-u16))) suffixes-none))))))

pub suffix-predicate : Suffix predicate
unfolding predicate
suffix-predicate = suffix-two _ suffix-u16 suffix-optional

suffix-anchor : Suffix anchor
unfolding anchor
suffix-anchor = suffix-kind (suffixes-more (suffix-pure _) (suffixes-more (suffix-pure _) suffixes-none))

pub suffix-node : Suffix node
unfolding node one two int_node bytes_node fuzzy_node record_node field_pattern
suffix-node =
    suffix-kind
    (suffixes-more (suffix-one _ (suffix-many suffix-u8 8))
    (suffixes-more (suffix-one _ suffix-u16)
    (suffixes-more (suffix-one _ (suffix-several suffix-u8))
    (suffixes-more (suffix-one _ suffix-u16)
    (suffixes-more (suffix-pure _)
    (suffixes-more (suffix-pure _)
    (suffixes-more (suffix-one _ suffix-u16)
    (suffixes-more (suffix-three _ suffix-u16 suffix-u8 suffix-anchor)
    (suffixes-more (suffix-one _ (suffix-several (suffix-two _ suffix-u16 suffix-u16)))
    (suffixes-more (suffix-two _ suffix-u16 suffix-u16)
    (suffixes-more (suffix-one _ suffix-u16)
    (suffixes-more (suffix-two _ suffix-u16 suffix-u16)
    (suffixes-more (suffix-pure _)
    (suffixes-more (suffix-pure _)
    (suffixes-more (suffix-two _ suffix-u16 suffix-u16) (suffixes-more (suffix-pure _) (suffixes-more (suffix-pure _) suffixes-none)))))))))))))))))

pub suffix-path : Suffix path
unfolding path
suffix-path = suffix-two _ suffix-u16 (suffix-several suffix-u32)

pub suffix-slot : Suffix slot
unfolding slot row_slot key_slot derived_slot field_slot value_slot const_slot
suffix-slot =
    suffix-kind
    (suffixes-more (suffix-two _ suffix-u16 suffix-optional)
    (suffixes-more (suffix-two _ suffix-u16 suffix-u16)
    (suffixes-more (suffix-one _ suffix-u16)
    (suffixes-more (suffix-three _ suffix-u16 suffix-path suffix-u16)
    (suffixes-more (suffix-two _ suffix-u16 suffix-u16) (suffixes-more (suffix-one _ suffix-u16) suffixes-none))))))

pub suffix-binding : Suffix binding
unfolding binding
suffix-binding = suffix-two _ suffix-u16 suffix-slot

pub suffix-hoisted : Suffix hoisted
unfolding hoisted
suffix-hoisted = suffix-two _ suffix-u16 suffix-u16

pub suffix-fetched : Suffix fetched
unfolding fetched
suffix-fetched = suffix-three _ suffix-u16 suffix-path suffix-u16

pub suffix-constraint : Suffix constraint
unfolding constraint
suffix-constraint = suffix-two _ suffix-u16 suffix-u16

suffix-op : Suffix op
unfolding op
suffix-op = suffix-kind (suffixes-more (suffix-pure _) (suffixes-more (suffix-pure _) (suffixes-more (suffix-pure _) (suffixes-more (suffix-pure _) suffixes-none))))

pub suffix-comparison : Suffix comparison
unfolding comparison
suffix-comparison = suffix-three _ suffix-op suffix-u16 suffix-u16

pub suffix-level : Suffix level
unfolding level
suffix-level = suffix-three _ suffix-u16 suffix-u16 suffix-u16

-- a record of any section
records-suffix : Suffixes record_readers
records-suffix =
    suffixes-more (suffix-skim suffix-name)
    (suffixes-more (suffix-skim suffix-type)
    (suffixes-more (suffix-skim suffix-predicate)
    (suffixes-more (suffix-skim suffix-node)
    (suffixes-more (suffix-skim suffix-binding)
    (suffixes-more (suffix-skim suffix-hoisted)
    (suffixes-more (suffix-skim suffix-fetched)
    (suffixes-more (suffix-skim suffix-constraint) (suffixes-more (suffix-skim suffix-comparison) (suffixes-more (suffix-skim suffix-level) suffixes-none)))))))))

pub suffix-record : (s : ℕ) → s < 10 → Suffix (record_of s)
unfolding record_of
suffix-record s h = subst Suffix (get_or-in record_readers s _ _ h) (records-suffix.each s)

pub suffix-sections : (s : ℕ) → s < 10 → Suffix (section_of s)
unfolding section_of
suffix-sections s h = suffix-section (limit_of s) (suffix-record s h)

-- a reading that ended at q: what it got, and that q is in the file
pub record Ended {A : Type 0} (f : List ℕ) (r : Reader A) (p q : ℕ) : Type 0 where
  pub value : A
  pub is : read_at f r p ≡ got value (drop q f)
  pub within : q ≤ length f

next_of : {a b : ℕ} → ◌≡◌ {A = Result ℕ ℕ} (Ok a) (Ok b) → a ≡ b
next_of {a} {b} e = cc

module _ {A : Type 0} (f : List ℕ) (r : Reader A) (p : ℕ) where
  pub ended : (q : ℕ) → Suffix r → p ≤ length f → step_at f r p ≡ Ok q → Ended f r p q
  unfolding step_at read_at step_of
  ended q x h e = go (r (drop p f)) refl e
    where
      go : (y : Read A) → r (drop p f) ≡ y → step_of f y ≡ Ok q → Ended f r p q
      go (got a rest) g k =
          let t = end-end (record { skipped = p; within = h; is = refl }) (x.left (drop p f) a rest g) in
          let n : length f - length rest ≡ q = next_of k in
          let m : t.skipped ≡ q = omega (arith, ap length t.is, length-drop t.skipped f, t.within) in
          record { value = a; is = g ∙ ap (got a) (t.is ∙ ap (λ (j : ℕ). drop j f) m); within = omega (arith, t.within) }
      go (refused n) g k = absurd (refused-next k)

  pub faulted : (x : ℕ) → step_at f r p ≡ Err x → read_at f r p ≡ refused x
  unfolding step_at step_of
  faulted x e = go (read_at f r p) e
    where
      go : (y : Read A) → step_of f y ≡ Err x → y ≡ refused x
      go (got a rest) g = absurd (refused-next (sym g))
      go (refused n) g = let z : n ≡ x = cc in ap refused z
