-- What the written rules' readers find in the bytes: numbers, runs of records, and what a reading that succeeded says of the file's length.
use Prim.Native.Nat.{ℕ, zero, suc, ◌+◌, ◌*◌, ◌≤◌, ◌<◌}
use mathlib.Core.Path.{◌≡◌, refl, sym, ap, ◌∙◌}
use mathlib.Core.List.{List, [], ◌∷◌}
use mathlib.Core.Logic.{⊎_elim}
use native.Mathlib.Omega.{arith}
use lib.ListN.{length, get_or, drop, length-drop}
use Rattle.rules.specs.File as File
use Rattle.rules.specs.Read.{Read, Reader, ◌>>=◌, pure, u8, u16, u32, optional, many, several, field_ty, alternative, field_pattern, path}
use Rattle.rules.specs.Read.Read.{got}
use Rattle.file.specs.Steps.{word, read_at}
use Rattle.file.proofs.Readers.{lt-or-le, refused-got, bind_inv, then-got, u8-in, byte-in, Needs, needs-fixed, needs-first, Fixed, fixed-u8, fixed-u16, fixed-u32, fixed-many}
use Rattle.file.proofs.Sections.{word-then}
use Rattle.views.specs.Views.{run, long, byte_at, field_at, alternative_at, pattern_at, path_at, or_none}

-- a run is read by index
module _ {A : Type 0} (g : ℕ → A) (w : ℕ) where
  pub run_none : (n p : ℕ) → n ≡ 0 → run g w n p ≡ []
  unfolding run
  run_none n p h = rw h

  pub run_more : (n m p : ℕ) → n ≡ m + 1 → run g w n p ≡ g p ∷ run g w m (p + w)
  unfolding run
  run_more n m p h = ap (λ (k : ℕ). run g w k p) (h ∙ suc-of m)
    where
      suc-of : (m : ℕ) → m + 1 ≡ suc m
      suc-of m = omega arith

  pub length_run : (n p : ℕ) → length (run g w n p) ≡ n
  unfolding run
  length_run zero p = refl
  length_run (suc n) p = ap suc (length_run n (p + w))

  pub run_at : (n p k : ℕ) (d : A) → k < n → get_or (run g w n p) k d ≡ g (p + w * k)
  unfolding run
  run_at zero p k d h = absurd (omega arith)
  run_at (suc n) p zero d h = ap g (omega arith)
  run_at (suc n) p (suc k) d h = run_at n (p + w) k d (omega arith) ∙ ap g (omega arith)

-- what was read is what stands there
pub value_of : {A : Type 0} {a b : A} {l m : List ℕ} {x : Read A} → x ≡ got a l → x ≡ got b m → a ≡ b
value_of {A} {a} {b} {l} {m} {x} e g = cc

pub rest_of : {A : Type 0} {a b : A} {l m : List ℕ} {x : Read A} → x ≡ got a l → x ≡ got b m → l ≡ m
rest_of {A} {a} {b} {l} {m} {x} e g = cc

-- a reading that succeeded had the bytes that it needs
pub needs-room : {A : Type 0} (f : List ℕ) (n p : ℕ) {r : Reader A} {a : A} {rest : List ℕ} → 0 < n → Needs n r → read_at f r p ≡ got a rest → p + n ≤ length f
unfolding read_at
needs-room f n p k x e =
    ⊎_elim (λ h. absurd (refused-got (sym (x.cut (drop p f) h) ∙ e))) (λ h. omega (arith, length-drop p f)) (lt-or-le (length (drop p f)) n)

-- one byte, and what it asks for
pub record First {A : Type 0} (f : List ℕ) (k : ℕ → Reader A) (p : ℕ) (a : A) (rest : List ℕ) : Type 0 where
  pub inside : p < length f
  pub then : read_at f (k (get_or f p 0)) (p + 1) ≡ got a rest

pub first_byte : {A : Type 0} (f : List ℕ) (k : ℕ → Reader A) (p : ℕ) (a : A) (rest : List ℕ) → read_at f (u8 >>= k) p ≡ got a rest → First f k p a rest
first_byte f k p a rest e =
    let h : p + 1 ≤ length f = needs-room f 1 p (omega arith) (needs-first 1 k (needs-fixed 1 fixed-u8)) e in
    let h' : p < length f = omega arith in
    record { inside = h'; then = sym (byte-in f p k h') ∙ e }

-- numbers
pub long-in : (f : List ℕ) (p : ℕ) → p + 4 ≤ length f → read_at f u32 p ≡ got (long f p) (drop (p + 4) f)
unfolding u32 long read_at pure
long-in f p h =
    let e : p + 2 + 2 ≡ p + 4 = omega arith in
    word-then f p _ (omega arith) ∙ word-then f (p + 2) _ (omega arith) ∙ ap (λ (j : ℕ). got (long f p) (drop j f)) e

pub optional-in : (f : List ℕ) (p : ℕ) → p + 2 ≤ length f → read_at f optional p ≡ got (or_none (word f p)) (drop (p + 2) f)
unfolding optional read_at pure or_none
optional-in f p h = word-then f p _ h

-- one, two or three numbers and what is made of them
module _ {A : Type 0} (f : List ℕ) (p : ℕ) where
  pub one_in : (make : ℕ → A) → p + 2 ≤ length f → read_at f (u16 >>= λ a. pure (make a)) p ≡ got (make (word f p)) (drop (p + 2) f)
  unfolding read_at pure
  one_in make h = word-then f p _ h

  pub two_in : (make : ℕ → ℕ → A) → p + 4 ≤ length f → read_at f (u16 >>= λ a. u16 >>= λ b. pure (make a b)) p ≡ got (make (word f p) (word f (p + 2))) (drop (p + 4) f)
  unfolding read_at pure
  two_in make h =
      let e : p + 2 + 2 ≡ p + 4 = omega arith in
      word-then f p _ (omega arith) ∙ word-then f (p + 2) _ (omega arith) ∙ ap (λ (j : ℕ). got (make (word f p) (word f (p + 2))) (drop j f)) e

  pub three-in : (make : ℕ → ℕ → ℕ → A) → p + 6 ≤ length f → read_at f (u16 >>= λ a. u16 >>= λ b. u16 >>= λ c. pure (make a b c)) p ≡ got (make (word f p) (word f (p + 2)) (word f (p + 4))) (drop (p + 6) f)
  unfolding read_at pure
  three-in make h =
      let e : p + 2 + 2 ≡ p + 4 = omega arith in
      let g : p + 4 + 2 ≡ p + 6 = omega arith in
      word-then f p _ (omega arith) ∙ word-then f (p + 2) _ (omega arith) ∙ ap (λ (j : ℕ). read_at f (u16 >>= λ c. pure (make (word f p) (word f (p + 2)) c)) j) e
      ∙ word-then f (p + 4) _ (omega arith) ∙ ap (λ (j : ℕ). got (make (word f p) (word f (p + 2)) (word f (p + 4))) (drop j f)) g

-- a reader that finds `at p` in the w bytes at p
pub record Finds {A : Type 0} (f : List ℕ) (r : Reader A) (w : ℕ) (at : ℕ → A) : Type 0 where
  pub whole : (p : ℕ) → p + w ≤ length f → read_at f r p ≡ got (at p) (drop (p + w) f)

module _ (f : List ℕ) where
  pub finds-byte : Finds f u8 1 (byte_at f)
  unfolding byte_at
  finds-byte = record { whole = λ p h. u8-in f p (omega arith) }

  pub finds-long : Finds f u32 4 (long f)
  finds-long = record { whole = λ p h. long-in f p h }

  pub finds-field : Finds f field_ty 4 (field_at f)
  unfolding field_ty field_at
  finds-field = record { whole = λ p h. two_in f p _ h }

  pub finds-pattern : Finds f field_pattern 4 (pattern_at f)
  unfolding field_pattern pattern_at
  finds-pattern = record { whole = λ p h. two_in f p _ h }

  pub finds-alternative : Finds f alternative 8 (alternative_at f)
  unfolding alternative alternative_at read_at pure
  finds-alternative =
      record {
        whole = λ p h.
            let e : p + 2 + 4 ≡ p + 6 = omega arith in
            let g : p + 6 + 2 ≡ p + 8 = omega arith in
            word-then f p _ (omega arith) ∙ then-got f u32 _ (p + 2) (long f (p + 2)) (p + 2 + 4) (long-in f (p + 2) (omega arith))
            ∙ ap (λ (j : ℕ). read_at f (u16 >>= λ t. pure (record { name = word f p; disc = long f (p + 2); type = t })) j) e ∙ word-then f (p + 6) _ (omega arith)
            ∙ ap (λ (j : ℕ). got (alternative_at f p) (drop j f)) g;
      }

module _ {A : Type 0} (f : List ℕ) {r : Reader A} (w : ℕ) {at : ℕ → A} (x : Finds f r w at) where
  pub many-run : (n p : ℕ) → p + w * n ≤ length f → read_at f (many n r) p ≡ got (run at w n p) (drop (p + w * n) f)
  unfolding many run read_at pure
  many-run zero p h = let e : p ≡ p + w * 0 = omega arith in ap (λ (j : ℕ). got [] (drop j f)) e
  many-run (suc n) p h =
      let e : p + w + w * n ≡ p + w * suc n = omega arith in
      then-got f r _ p (at p) (p + w) (x.whole p (omega arith)) ∙ then-got f (many n r) _ (p + w) (run at w n (p + w)) (p + w + w * n) (many-run n (p + w) (omega arith))
      ∙ ap (λ (j : ℕ). got (run at w (suc n) p) (drop j f)) e

  -- a count byte at p and as many records
  pub record Counts (p : ℕ) (xs : List A) (rest : List ℕ) : Type 0 where
    pub inside : p < length f
    pub room : p + 1 + w * get_or f p 0 ≤ length f
    pub is : run at w (get_or f p 0) (p + 1) ≡ xs
    pub after : rest ≡ drop (p + 1 + w * get_or f p 0) f

  pub counts : (p : ℕ) (xs : List A) (rest : List ℕ) → Fixed w r → read_at f (several r) p ≡ got xs rest → Counts p xs rest
  unfolding several
  counts p xs rest y e =
      let b = first_byte f (λ n. many n r) p xs rest e in
      let n : ℕ = get_or f p 0 in
      let h : p + 1 + n * w ≤ length f = room (p + 1) n (omega (arith, b.inside)) b.then in
      let h' : p + 1 + w * n ≤ length f = omega arith in
      record { inside = b.inside; room = h'; is = value_of (many-run n (p + 1) h') b.then; after = rest_of b.then (many-run n (p + 1) h') }
    where
      room : (q n : ℕ) → q ≤ length f → read_at f (many n r) q ≡ got xs rest → q + n * w ≤ length f
      room q n g e = ⊎_elim (λ k. ⊎_elim (λ z. omega arith) (λ z. absurd (omega (arith, needs-room f (n * w) q z (needs-fixed (n * w) (fixed-many w y n)) e, k))) (lt-or-le (n * w) 1)) (λ k. k) (lt-or-le (length f) (q + n * w))

  -- and what is made of them
  pub record Made {B : Type 0} (make : List A → B) (p : ℕ) (b : B) (rest : List ℕ) : Type 0 where
    pub inside : p < length f
    pub room : p + 1 + w * get_or f p 0 ≤ length f
    pub is : make (run at w (get_or f p 0) (p + 1)) ≡ b
    pub after : rest ≡ drop (p + 1 + w * get_or f p 0) f

  pub several-made : {B : Type 0} (make : List A → B) (p : ℕ) (b : B) (rest : List ℕ) → Fixed w r → read_at f (several r >>= λ xs. pure (make xs)) p ≡ got b rest → Made make p b rest
  unfolding read_at pure
  several-made make p b rest y e =
      let v = bind_inv (several r) (λ xs. pure (make xs)) (drop p f) b rest e in
      let c = counts p v.value v.after y v.first in
      record { inside = c.inside; room = c.room; is = ap make c.is ∙ value_of refl v.then; after = rest_of v.then refl ∙ c.after }

-- a path, and what follows it
pub record Walked {B : Type 0} (f : List ℕ) (k : File.FieldPath → Reader B) (p : ℕ) (b : B) (rest : List ℕ) : Type 0 where
  pub room : p + 3 + 4 * get_or f (p + 2) 0 ≤ length f
  pub then : read_at f (k (path_at f p)) (p + 3 + 4 * get_or f (p + 2) 0) ≡ got b rest

pub path-then : {B : Type 0} (f : List ℕ) (k : File.FieldPath → Reader B) (p : ℕ) (b : B) (rest : List ℕ) → read_at f (path >>= k) p ≡ got b rest → Walked f k p b rest
unfolding read_at path path_at byte_at
path-then f k p b rest e =
    let v = bind_inv path k (drop p f) b rest e in
    let m : p + 2 ≤ length f = needs-room f 2 p (omega arith) (needs-first 2 _ (needs-fixed 2 fixed-u16)) v.first in
    let c = several-made f 4 (finds-long f) (λ ss. record { field = word f p; steps = ss }) (p + 2) v.value v.after fixed-u32 (sym (word-then f p _ m) ∙ v.first) in
    let z : p + 2 + 1 ≡ p + 3 = omega arith in
    record {
      room = omega (arith, c.room);
      then = sym (ap (λ (j : ℕ). k (record { field = word f p; steps = run (long f) 4 (get_or f (p + 2) 0) j }) (drop (j + 4 * get_or f (p + 2) 0) f)) z)
          ∙ ap (k (record { field = word f p; steps = run (long f) 4 (get_or f (p + 2) 0) (p + 2 + 1) })) (sym c.after) ∙ ap (λ (q : File.FieldPath). k q v.after) c.is ∙ v.then;
    }
