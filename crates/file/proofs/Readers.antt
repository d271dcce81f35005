-- The written rules' readers, by position in the file: what follows a reading, and how much is read.
use Prim.Native.Nat.{ℕ, zero, suc, ◌+◌, ◌*◌, ◌-◌, ◌≤◌, ◌<◌}
use mathlib.Core.Path.{◌≡◌, refl, sym, ap, ◌∙◌, subst}
use mathlib.Core.Bool.{Bool, true, false}
use mathlib.Core.List.{List, [], ◌∷◌}
use mathlib.Core.Logic.{◌⊎◌, inl, inr, ⊎_elim}
use native.Mathlib.Omega.{arith}
use native.Mathlib.Numerals.{add-one}
use borrow.Author.Tests.{ltb-true, ltb-false}
use lib.Dec.{ltb}
use lib.ListN.{length, get_or, drop, length-drop, drop_of_length-le}
use lib.Seq.{drop-cons, drop-drop}
use Rattle.rules.specs.Read.{Read, Reader, follow, ◌>>=◌, pure, refuse, u8, u16, u32, optional, many, several, kind}
use Rattle.rules.specs.Read.Read.{got, refused}
use Rattle.file.specs.Steps.{step_of, read_at, step_at, skim}
use Rattle.std.specs.Prelude.{Ok, Err}

pub lt-or-le : (a b : ℕ) → (a < b) ⊎ (b ≤ a)
lt-or-le a b = go (ltb a b) refl
  where
    go : (t : Bool) → ltb a b ≡ t → (a < b) ⊎ (b ≤ a)
    go true e = inl (ltb-true a b e)
    go false e = inr (ltb-false a b e)

-- a number above 0 is one more than the number below it
pub down : (n : ℕ) → 0 < n → n ≡ suc (n - 1)
down n h = omega arith

pub refused-got : {A : Type 0} {n : ℕ} {a : A} {rest : List ℕ} → refused n ≡ got a rest → ⊥
refused-got {A} {n} {a} {rest} e = let z : ◌≡◌ {A = ℕ} 0 1 = cc in omega arith

pub refused-next : {x q : ℕ} → Err x ≡ Ok q → ⊥
refused-next {x} {q} e = let z : ◌≡◌ {A = ℕ} 0 1 = cc in omega arith

-- a reading goes on with what was read, or stops at its fault
module _ {A B : Type 0} (r : Reader A) (k : A → Reader B) (l : List ℕ) where
  pub bind-got : (a : A) (m : List ℕ) → r l ≡ got a m → (r >>= k) l ≡ k a m
  unfolding ◌>>=◌ follow
  bind-got a m e = ap (λ (x : Read A). follow x k) e

  pub bind-refused : (n : ℕ) → r l ≡ refused n → (r >>= k) l ≡ refused n
  unfolding ◌>>=◌ follow
  bind-refused n e = ap (λ (x : Read A). follow x k) e

  pub record Went (b : B) (rest : List ℕ) : Type 0 where
    pub value : A
    pub after : List ℕ
    pub first : r l ≡ got value after
    pub then : k value after ≡ got b rest

  pub bind_inv : (b : B) (rest : List ℕ) → (r >>= k) l ≡ got b rest → Went b rest
  unfolding ◌>>=◌ follow
  bind_inv b rest e = go (r l) refl e
    where
      go : (x : Read A) → r l ≡ x → follow x k ≡ got b rest → Went b rest
      go (got a m) h g = record { value = a; after = m; first = h; then = g }
      go (refused n) h g = absurd (refused-got g)

-- the same by position
module _ {A B : Type 0} (f : List ℕ) (r : Reader A) (k : A → Reader B) (p : ℕ) where
  pub then-got : (a : A) (q : ℕ) → read_at f r p ≡ got a (drop q f) → read_at f (r >>= k) p ≡ read_at f (k a) q
  unfolding read_at
  then-got a q e = bind-got r k (drop p f) a (drop q f) e

  pub then-refused : (n : ℕ) → read_at f r p ≡ refused n → read_at f (r >>= k) p ≡ refused n
  unfolding read_at
  then-refused n e = bind-refused r k (drop p f) n e

-- one byte
module _ (f : List ℕ) (p : ℕ) where
  pub u8-in : p < length f → read_at f u8 p ≡ got (get_or f p 0) (drop (p + 1) f)
  unfolding read_at u8
  u8-in h = rw (drop-cons f p 0 h, add-one)

  pub u8-out : length f ≤ p → read_at f u8 p ≡ refused 3
  unfolding read_at u8
  u8-out h = rw (drop_of_length-le f h)

  -- a byte, then what it asks for
  pub byte-in : {A : Type 0} (k : ℕ → Reader A) → p < length f → read_at f (u8 >>= k) p ≡ read_at f (k (get_or f p 0)) (p + 1)
  unfolding read_at
  byte-in k h = bind-got u8 k (drop p f) (get_or f p 0) (drop (p + 1) f) (u8-in h)

  pub byte-out : {A : Type 0} (k : ℕ → Reader A) → length f ≤ p → read_at f (u8 >>= k) p ≡ refused 3
  unfolding read_at
  byte-out k h = bind-refused u8 k (drop p f) 3 (u8-out h)

  pub kind-in : {A : Type 0} (rs : List (Reader A)) → p < length f → read_at f (kind rs) p ≡ read_at f (get_or rs (get_or f p 0) (refuse 5)) (p + 1)
  unfolding kind
  kind-in rs h = byte-in (λ (k : ℕ). get_or rs k (refuse 5)) h

  pub kind-out : {A : Type 0} (rs : List (Reader A)) → length f ≤ p → read_at f (kind rs) p ≡ refused 3
  unfolding kind
  kind-out rs h = byte-out (λ (k : ℕ). get_or rs k (refuse 5)) h

  pub several-in : {A : Type 0} (r : Reader A) → p < length f → read_at f (several r) p ≡ read_at f (many (get_or f p 0) r) (p + 1)
  unfolding several
  several-in r h = byte-in (λ (n : ℕ). many n r) h

  pub several-out : {A : Type 0} (r : Reader A) → length f ≤ p → read_at f (several r) p ≡ refused 3
  unfolding several
  several-out r h = byte-out (λ (n : ℕ). many n r) h

-- where a reading ends
module _ {A : Type 0} (f : List ℕ) (r : Reader A) (p : ℕ) where
  pub step-got : (a : A) (q : ℕ) → q ≤ length f → read_at f r p ≡ got a (drop q f) → step_at f r p ≡ Ok q
  unfolding step_at step_of
  step-got a q h e = ap (step_of f) e ∙ ap Ok (omega (arith, length-drop q f))

  pub step-refused : (n : ℕ) → read_at f r p ≡ refused n → step_at f r p ≡ Err n
  unfolding step_at step_of
  step-refused n e = ap (step_of f) e

-- equal readings end alike
pub step_same : {A : Type 0} (f : List ℕ) (r s : Reader A) (p q : ℕ) → read_at f r p ≡ read_at f s q → step_at f r p ≡ step_at f s q
unfolding step_at
step_same f r s p q e = ap (step_of f) e

-- a reading's value may be changed
map_same : {A B : Type 0} (f : List ℕ) (g : A → B) (x : Read A) → step_of f (follow x (λ (a : A). pure (g a))) ≡ step_of f x
unfolding step_of follow pure
map_same f g (got a rest) = refl
map_same f g (refused n) = refl

pub step_map : {A B : Type 0} (f : List ℕ) (g : A → B) (r : Reader A) (p : ℕ) → step_at f (r >>= λ (a : A). pure (g a)) p ≡ step_at f r p
unfolding step_at read_at ◌>>=◌
step_map f g r p = map_same f g (r (drop p f))

pub step-skim : {A : Type 0} (f : List ℕ) (r : Reader A) (p : ℕ) → step_at f (skim r) p ≡ step_at f r p
unfolding skim
step-skim f r p = step_map f (λ a. tt) r p

-- n times the same reading
module _ {A : Type 0} (f : List ℕ) (r : Reader A) (n p : ℕ) where
  pub many-none : n ≡ 0 → p ≤ length f → step_at f (many n r) p ≡ Ok p
  unfolding many pure read_at
  many-none h g = rw h (step-got f (pure []) p [] p g refl)

  pub many_more : (a : A) (q : ℕ) → 0 < n → read_at f r p ≡ got a (drop q f) → step_at f (many n r) p ≡ step_at f (many (n - 1) r) q
  unfolding step_at read_at many ◌>>=◌ follow
  many_more a q h e =
      ap (λ (k : ℕ). step_of f (many k r (drop p f))) (down n h)
      ∙ ap (λ (x : Read A). step_of f (follow x (λ (y : A). many (n - 1) r >>= λ (ys : List A). pure (y ∷ ys)))) e
      ∙ map_same f (λ (ys : List A). a ∷ ys) (many (n - 1) r (drop q f))

  pub many-fault : (x : ℕ) → 0 < n → read_at f r p ≡ refused x → step_at f (many n r) p ≡ Err x
  unfolding step_at read_at many step_of ◌>>=◌ follow
  many-fault x h e =
      ap (λ (k : ℕ). step_of f (many k r (drop p f))) (down n h)
      ∙ ap (λ (y : Read A). step_of f (follow y (λ (y : A). many (n - 1) r >>= λ (ys : List A). pure (y ∷ ys)))) e

-- a reader of n bytes, whatever they hold
pub record Fixed {A : Type 0} (n : ℕ) (r : Reader A) : Type 0 where
  pub value : List ℕ → A
  pub whole : (l : List ℕ) → n ≤ length l → r l ≡ got (value l) (drop n l)
  pub cut : (l : List ℕ) → length l < n → r l ≡ refused 3

pub fixed-as : {A : Type 0} (n m : ℕ) {r : Reader A} → n ≡ m → Fixed n r → Fixed m r
fixed-as n m {r} e x = subst (λ (k : ℕ). Fixed k r) e x

pub fixed-pure : {A : Type 0} (a : A) → Fixed 0 (pure a)
unfolding pure
fixed-pure a = record { value = λ l. a; whole = λ l h. refl; cut = λ l h. absurd (omega arith) }

pub fixed-u8 : Fixed 1 u8
unfolding u8
fixed-u8 = record { value = λ l. get_or l 0 0; whole = whole; cut = cut }
  where
    whole : (l : List ℕ) → 1 ≤ length l → u8 l ≡ got (get_or l 0 0) (drop 1 l)
    whole [] h = absurd (omega arith)
    whole (b ∷ l) h = refl

    cut : (l : List ℕ) → length l < 1 → u8 l ≡ refused 3
    cut [] h = refl
    cut (b ∷ l) h = absurd (omega arith)

pub fixed-bind : {A B : Type 0} (n m : ℕ) {r : Reader A} {k : A → Reader B} → Fixed n r → ((a : A) → Fixed m (k a)) → Fixed (n + m) (r >>= k)
fixed-bind {A} {B} n m {r} {k} x y =
    record {
      value = λ l. (y (x.value l)).value (drop n l);
      whole = λ l h.
          let e = x.whole l (omega arith) in
          bind-got r k l (x.value l) (drop n l) e ∙ (y (x.value l)).whole (drop n l) (omega (arith, length-drop n l))
          ∙ ap (got ((y (x.value l)).value (drop n l))) (drop-drop m n l);
      cut = λ l h. ⊎_elim (λ g. bind-refused r k l 3 (x.cut l g))
          (λ g. bind-got r k l (x.value l) (drop n l) (x.whole l g) ∙ (y (x.value l)).cut (drop n l) (omega (arith, length-drop n l)))
          (lt-or-le (length l) n);
    }

pub fixed-many : {A : Type 0} (n : ℕ) {r : Reader A} → Fixed n r → (k : ℕ) → Fixed (k * n) (many k r)
unfolding many
fixed-many n x zero = fixed-as 0 (0 * n) (omega arith) (fixed-pure [])
fixed-many n x (suc k) =
    let e : n + (k * n + 0) ≡ suc k * n = omega arith in
    fixed-as (n + (k * n + 0)) (suc k * n) e (fixed-bind n (k * n + 0) x (λ a. fixed-bind (k * n) 0 (fixed-many n x k) (λ as'. fixed-pure (a ∷ as'))))

pub fixed-u16 : Fixed 2 u16
unfolding u16
fixed-u16 = fixed-bind 1 1 fixed-u8 (λ lo. fixed-bind 1 0 fixed-u8 (λ hi. fixed-pure _))

pub fixed-u32 : Fixed 4 u32
unfolding u32
fixed-u32 = fixed-bind 2 2 fixed-u16 (λ lo. fixed-bind 2 0 fixed-u16 (λ hi. fixed-pure _))

pub fixed-optional : Fixed 2 optional
unfolding optional
fixed-optional = fixed-bind 2 0 fixed-u16 (λ n. fixed-pure _)

pub fixed-bytes : (n : ℕ) → Fixed n (many n u8)
fixed-bytes n = fixed-as (n * 1) n (omega arith) (fixed-many 1 fixed-u8 n)

module _ {A : Type 0} (f : List ℕ) (n p : ℕ) {r : Reader A} (x : Fixed n r) where
  pub fixed-got : p + n ≤ length f → read_at f r p ≡ got (x.value (drop p f)) (drop (p + n) f)
  unfolding read_at
  fixed-got h =
      let g : n ≤ length (drop p f) = omega (arith, length-drop p f) in
      x.whole (drop p f) g ∙ ap (got (x.value (drop p f))) (drop-drop n p f)

  pub fixed_in : p + n ≤ length f → step_at f r p ≡ Ok (p + n)
  fixed_in h = step-got f r p (x.value (drop p f)) (p + n) h (fixed-got h)

  -- what follows n bytes, read at its own place
  pub fixed_then : {B : Type 0} (k : A → Reader B) → p + n ≤ length f → read_at f (r >>= k) p ≡ read_at f (k (x.value (drop p f))) (p + n)
  fixed_then k h = then-got f r k p (x.value (drop p f)) (p + n) (fixed-got h)

-- a reader of at least n bytes
pub record Needs {A : Type 0} (n : ℕ) (r : Reader A) : Type 0 where
  pub cut : (l : List ℕ) → length l < n → r l ≡ refused 3

pub needs-fixed : {A : Type 0} (n : ℕ) {r : Reader A} → Fixed n r → Needs n r
needs-fixed n x = record { cut = x.cut }

pub needs-bind : {A B : Type 0} (n m : ℕ) {r : Reader A} {k : A → Reader B} → Fixed n r → ((a : A) → Needs m (k a)) → Needs (n + m) (r >>= k)
needs-bind {A} {B} n m {r} {k} x y =
    record {
      cut = λ l h. ⊎_elim (λ g. bind-refused r k l 3 (x.cut l g))
          (λ g. bind-got r k l (x.value l) (drop n l) (x.whole l g) ∙ (y (x.value l)).cut (drop n l) (omega (arith, length-drop n l)))
          (lt-or-le (length l) n);
    }

-- at least those of its beginning
pub needs-first : {A B : Type 0} (n : ℕ) {r : Reader A} (k : A → Reader B) → Needs n r → Needs n (r >>= k)
needs-first n {r} k x = record { cut = λ l h. bind-refused r k l 3 (x.cut l h) }

pub needs-kind : {A : Type 0} (rs : List (Reader A)) → Needs 1 (kind rs)
unfolding kind
needs-kind rs = needs-first 1 (λ (k : ℕ). get_or rs k (refuse 5)) (needs-fixed 1 fixed-u8)

pub cut_short : {A : Type 0} (f : List ℕ) (n p : ℕ) {r : Reader A} → Needs n r → p ≤ length f → length f < p + n → step_at f r p ≡ Err 3
unfolding read_at
cut_short f n p {r} x g h =
    let k : length (drop p f) < n = omega (arith, length-drop p f) in
    step-refused f r p 3 (x.cut (drop p f) k)

-- two readers that end alike, wherever they are applied
pub record SameSteps {A B : Type 0} (r : Reader A) (s : Reader B) : Type 0 where
  pub ends : (l : List ℕ) → skim r l ≡ skim s l

pub alike_refl : {A : Type 0} (r : Reader A) → SameSteps r r
alike_refl r = record { ends = λ l. refl }

skimmed : {A : Type 0} → Read A → Read (Unit {0})
skimmed (got a rest) = got tt rest
skimmed (refused n) = refused n

skim-is : {A : Type 0} (r : Reader A) (l : List ℕ) → skim r l ≡ skimmed (r l)
unfolding skim skimmed ◌>>=◌ follow pure
skim-is {A} r l = go (r l)
  where
    go : (x : Read A) → follow x (λ a. pure tt) ≡ skimmed x
    go (got a rest) = refl
    go (refused n) = refl

pub alike-step : {A B : Type 0} (f : List ℕ) {r : Reader A} {s : Reader B} → SameSteps r s → (p : ℕ) → step_at f r p ≡ step_at f s p
unfolding step_at read_at
alike-step f {r} {s} x p = sym (step-skim f r p) ∙ ap (step_of f) (x.ends (drop p f)) ∙ step-skim f s p

pub alike-skim : {A : Type 0} (r : Reader A) → SameSteps r (skim r)
unfolding skimmed
alike-skim {A} r = record { ends = λ l. skim-is r l ∙ go (r l) ∙ ap skimmed (sym (skim-is r l)) ∙ sym (skim-is (skim r) l) }
  where
    go : (x : Read A) → skimmed x ≡ skimmed (skimmed x)
    go (got a rest) = refl
    go (refused n) = refl

-- after one and the same reader
pub alike-value : {A C D : Type 0} (r : Reader A) {k : A → Reader C} {h : A → Reader D} → ((a : A) → SameSteps (k a) (h a)) → SameSteps (r >>= k) (r >>= h)
unfolding skimmed ◌>>=◌ follow
alike-value {A} {C} {D} r {k} {h} y = record { ends = λ l. skim-is (r >>= k) l ∙ go (r l) ∙ sym (skim-is (r >>= h) l) }
  where
    go : (u : Read A) → skimmed (follow u k) ≡ skimmed (follow u h)
    go (got a l) = sym (skim-is (k a) l) ∙ (y a).ends l ∙ skim-is (h a) l
    go (refused n) = refl

pub alike-bind : {A B C D : Type 0} {r : Reader A} {s : Reader B} {k : A → Reader C} {h : B → Reader D} → SameSteps r s → ((a : A) (b : B) → SameSteps (k a) (h b)) → SameSteps (r >>= k) (s >>= h)
unfolding skimmed ◌>>=◌ follow
alike-bind {A} {B} {C} {D} {r} {s} {k} {h} x y = record { ends = λ l. skim-is (r >>= k) l ∙ go (r l) (s l) (sym (skim-is r l) ∙ x.ends l ∙ skim-is s l) ∙ sym (skim-is (s >>= h) l) }
  where
    go : (u : Read A) (v : Read B) → skimmed u ≡ skimmed v → skimmed (follow u k) ≡ skimmed (follow v h)
    go (got a l) (got b m) e = let z : l ≡ m = cc in sym (skim-is (k a) l) ∙ (y a b).ends l ∙ skim-is (h b) l ∙ ap (λ (j : List ℕ). skimmed (h b j)) z
    go (got a l) (refused n) e = absurd (refused-got (sym e))
    go (refused n) (got b m) e = absurd (refused-got e)
    go (refused n) (refused m) e = e

pub alike-pure : {A B : Type 0} (a : A) (b : B) → SameSteps (pure a) (pure b)
unfolding skimmed pure
alike-pure a b = record { ends = λ l. skim-is (pure a) l ∙ sym (skim-is (pure b) l) }

pub alike-refuse : {A B : Type 0} (n : ℕ) → SameSteps {A = A} {B = B} (refuse n) (refuse n)
unfolding skimmed refuse
alike-refuse n = record { ends = λ l. skim-is (refuse n) l ∙ sym (skim-is (refuse n) l) }

pub alike-many : {A B : Type 0} {r : Reader A} {s : Reader B} → SameSteps r s → (n : ℕ) → SameSteps (many n r) (many n s)
unfolding many
alike-many x zero = alike-pure _ _
alike-many x (suc n) = alike-bind x (λ a b. alike-bind (alike-many x n) (λ as' bs. alike-pure _ _))

pub alike-several : {A B : Type 0} {r : Reader A} {s : Reader B} → SameSteps r s → SameSteps (several r) (several s)
unfolding several
alike-several x = alike-value u8 (λ n. alike-many x n)

pub alike-map : {A B C : Type 0} (g : A → B) {r : Reader A} {s : Reader C} → SameSteps r s → SameSteps (r >>= λ (a : A). pure (g a)) s
unfolding skimmed ◌>>=◌ follow pure
alike-map {A} {B} {C} g {r} {s} x = record { ends = λ l. skim-is (r >>= λ (a : A). pure (g a)) l ∙ go (r l) ∙ sym (skim-is r l) ∙ x.ends l }
  where
    go : (u : Read A) → skimmed (follow u (λ (a : A). pure (g a))) ≡ skimmed u
    go (got a l) = refl
    go (refused n) = refl

-- readers of as many bytes
pub alike-fixed : {A B : Type 0} (n : ℕ) {r : Reader A} {s : Reader B} → Fixed n r → Fixed n s → SameSteps r s
unfolding skimmed
alike-fixed n {r} {s} x y = record { ends = λ l. skim-is r l ∙ ⊎_elim (λ h. ap skimmed (x.cut l h) ∙ sym (ap skimmed (y.cut l h))) (λ h. ap skimmed (x.whole l h) ∙ sym (ap skimmed (y.whole l h))) (lt-or-le (length l) n) ∙ sym (skim-is s l) }
