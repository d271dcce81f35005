-- What a reading that succeeds says of its pieces, each at its own place, and how the pieces' readings make up the whole.
use Prim.Native.Nat.{ℕ, zero, suc, ◌+◌, ◌-◌, ◌≤◌, ◌<◌}
use mathlib.Core.Path.{◌≡◌, refl, sym, ap, ◌∙◌}
use mathlib.Core.List.{List, ◌∷◌}
use mathlib.Core.Logic.{⊎_elim}
use native.Mathlib.Omega.{arith}
use lib.ListN.{length, get_or, drop}
use Rattle.rules.specs.Read.{Reader, ◌>>=◌, pure, refuse, u8, u16, many, kind}
use Rattle.rules.specs.Read.Read.{got}
use Rattle.file.specs.Steps.{word, read_at, step_at}
use Rattle.file.proofs.Readers.{lt-or-le, down, bind-got, bind_inv, then-got, kind-in, Fixed, needs-fixed, needs-first, fixed-u16}
use Rattle.file.proofs.Sections.{word-then}
use Rattle.views.proofs.Runs.{value_of, needs-room, first_byte}
use Rattle.views.proofs.Entries.{Kinded, kind-found, kind-is}
use Rattle.file.proofs.Suffix.{Suffix}
use Rattle.plan_form.specs.Places.{Found}
use Rattle.plan_form.proofs.Places.{stands}
use Rattle.plan_items.specs.Items.{items_at, past_of}
use Rattle.std.specs.Prelude.{Result, Ok, Err}
use Rattle.std.specs.Result.{result_unwrap_or}
use Rattle.file.specs.Refusals.{numbered}
use Rattle.file.specs.declared.Refusal.{Refusal}

-- one reading, then another
module _ {A B : Type 0} (f : List ℕ) (r : Reader A) (k : A → Reader B) (p : ℕ) (x : Found f (r >>= k) p) where
  pub found_first : Found f r p
  unfolding read_at
  found_first =
      let w = bind_inv r k (drop p f) x.item x.rest x.reads in
      record { item = w.value; rest = w.after; reads = w.first }

  pub found-then : (a : A) (q : ℕ) → read_at f r p ≡ got a (drop q f) → Found f (k a) q
  found-then a q e = record { item = x.item; rest = x.rest; reads = sym (then-got f r k p a q e) ∙ x.reads }

-- a two-byte number, then what follows it
module _ {A : Type 0} (f : List ℕ) (k : ℕ → Reader A) (p : ℕ) (x : Found f (u16 >>= k) p) where
  pub word-inside : p + 2 ≤ length f
  word-inside = needs-room f 2 p (omega arith) (needs-first 2 k (needs-fixed 2 fixed-u16)) x.reads

  pub word-found : Found f (k (word f p)) (p + 2)
  word-found = record { item = x.item; rest = x.rest; reads = sym (word-then f p k word-inside) ∙ x.reads }

-- a byte, then what follows it
module _ {A : Type 0} (f : List ℕ) (k : ℕ → Reader A) (p : ℕ) (x : Found f (u8 >>= k) p) where
  pub byte_inside : p < length f
  byte_inside = (first_byte f k p x.item x.rest x.reads).inside

  pub byte-found : Found f (k (get_or f p 0)) (p + 1)
  byte-found = record { item = x.item; rest = x.rest; reads = (first_byte f k p x.item x.rest x.reads).then }

-- a kind, then what its number has
module _ {A : Type 0} (f : List ℕ) (rs : List (Reader A)) (p : ℕ) (x : Found f (kind rs) p) where
  kinded : Kinded f rs p x.item x.rest
  kinded = kind-found f rs p x.item x.rest x.reads

  pub kind-inside : p < length f
  kind-inside = kinded.inside

  pub kind-known : get_or f p 0 < length rs
  kind-known = kinded.known

  pub kind-then : (k : ℕ) → get_or f p 0 ≡ k → Found f (get_or rs k (refuse 5)) (p + 1)
  kind-then k e = record { item = x.item; rest = x.rest; reads = kind-is f rs p k x.item x.rest kinded e }

  pub kind-reads : (k : ℕ) → get_or f p 0 ≡ k → (a : A) (q : ℕ) → read_at f (get_or rs k (refuse 5)) (p + 1) ≡ got a (drop q f) → read_at f (kind rs) p ≡ got a (drop q f)
  kind-reads k e a q g = kind-in f p rs kind-inside ∙ ap (λ (j : ℕ). read_at f (get_or rs j (refuse 5)) (p + 1)) e ∙ g

-- a reader of n bytes had them
pub fixed-room : {A : Type 0} (f : List ℕ) (n p : ℕ) (r : Reader A) → Fixed n r → p ≤ length f → Found f r p → p + n ≤ length f
fixed-room f n p r y h x = ⊎_elim (λ z. omega arith) (λ z. needs-room f n p z (needs-fixed n y) x.reads) (lt-or-le n 1)

-- where a walk ended, as the code has it
pub unwrapped : (s : Result ℕ Refusal) → result_unwrap_or s 0 ≡ past_of (numbered s)
unwrapped (Ok q) = refl
unwrapped (Err r) = refl

-- what was found ends where the walk over it does
pub found-past : {A : Type 0} (f : List ℕ) (r : Reader A) → Suffix r → (p q : ℕ) → p ≤ length f → (x : Found f r p) → q ≡ past_of (step_at f r p)
    → read_at f r p ≡ got x.item (drop q f)
found-past f r y p q h x e =
    let s = stands f y p x.item x.rest h x.reads in
    s.reads ∙ ap (λ (j : ℕ). got x.item (drop j f)) (sym (e ∙ ap past_of s.steps))

-- n readings by one reader
module _ {A : Type 0} (f : List ℕ) (r : Reader A) (n p : ℕ) where
  pub items-are : (xs : List A) (rest : List ℕ) → read_at f (many n r) p ≡ got xs rest → items_at f r n p ≡ xs
  unfolding items_at
  items-are xs rest e = rw e

  pub items-read : (xs : List A) (q : ℕ) → read_at f (many n r) p ≡ got xs (drop q f) → read_at f (many n r) p ≡ got (items_at f r n p) (drop q f)
  items-read xs q e = e ∙ ap (λ (l : List A). got l (drop q f)) (sym (items-are xs (drop q f) e))

  -- one reading more
  step : A → Reader (List A)
  step a = many (n - 1) r >>= λ (ys : List A). pure (a ∷ ys)

  opened : 0 < n → many n r ≡ (r >>= step)
  unfolding many step
  opened h = ap (λ (k : ℕ). many k r) (down n h)

  more : 0 < n → Found f (many n r) p → Found f (r >>= step) p
  more h x = record { item = x.item; rest = x.rest; reads = ap (λ (s : Reader (List A)). read_at f s p) (sym (opened h)) ∙ x.reads }

  pub found-one : 0 < n → Found f (many n r) p → Found f r p
  found-one h x = found_first f r step p (more h x)

  pub found-more : 0 < n → Found f (many n r) p → (a : A) (q : ℕ) → read_at f r p ≡ got a (drop q f) → Found f (many (n - 1) r) q
  unfolding step
  found-more h x a q e = found_first f (many (n - 1) r) _ q (found-then f r step p (more h x) a q e)

  pub items_more : 0 < n → Found f (many n r) p → (a : A) (q : ℕ) → read_at f r p ≡ got a (drop q f) → items_at f r n p ≡ a ∷ items_at f r (n - 1) q
  unfolding step items_at read_at pure
  items_more h x a q e =
      let y = found-more h x a q e in
      let g : read_at f (many n r) p ≡ got (a ∷ y.item) y.rest = ap (λ (s : Reader (List A)). read_at f s p) (opened h) ∙ then-got f r step p a q e ∙ bound y in
      items-are (a ∷ y.item) y.rest g ∙ ap (λ (l : List A). a ∷ l) (sym (items-is (n - 1) q y.item y.rest y.reads))
    where
      items-is : (m o : ℕ) (xs : List A) (rest : List ℕ) → read_at f (many m r) o ≡ got xs rest → items_at f r m o ≡ xs
      items-is m o xs rest e = rw e

      bound : (y : Found f (many (n - 1) r) q) → read_at f (step a) q ≡ got (a ∷ y.item) y.rest
      bound y = bind_to y.item y.rest y.reads
        where
          bind_to : (xs : List A) (rest : List ℕ) → read_at f (many (n - 1) r) q ≡ got xs rest → read_at f (step a) q ≡ got (a ∷ xs) rest
          bind_to xs rest e = bind-got (many (n - 1) r) (λ (ys : List A). pure (a ∷ ys)) (drop q f) xs rest e

-- as many as were asked for
many-length : {A : Type 0} (r : Reader A) (n : ℕ) (l : List ℕ) (xs : List A) (rest : List ℕ) → many n r l ≡ got xs rest → length xs ≡ n
unfolding many pure
many-length r zero l xs rest e = ap length (sym (value_of refl e))
many-length {A} r (suc n) l xs rest e =
    let w = bind_inv r _ l xs rest e in
    let v = bind_inv (many n r) (λ (ys : List A). pure (w.value ∷ ys)) w.after xs rest w.then in
    ap length (sym (value_of refl v.then)) ∙ ap suc (many-length r n w.after v.value v.after v.first)

pub items-length : {A : Type 0} (f : List ℕ) (r : Reader A) (n p : ℕ) → Found f (many n r) p → length (items_at f r n p) ≡ n
unfolding read_at
items-length f r n p x = ap length (items-are f r n p x.item x.rest x.reads) ∙ many-length r n (drop p f) x.item x.rest x.reads
