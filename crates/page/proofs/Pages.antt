-- Parts joined one after another, and a level's parts and residuals copied from the page.
use mathlib.Core.Bool.{Bool, true, false}
use mathlib.Core.List.{List}
use mathlib.Core.Path.{◌≡◌, refl, sym, ap, ◌∙◌}
use Prim.Native.Nat.{ℕ, suc, ◌+◌, ◌-◌, ◌*◌, ◌≤◌, ◌<◌}
use native.Mathlib.Omega.{arith}
use borrow.Author.Tests.{le-leb, lt-leb}
use lib.Dec.{leb}
use lib.ListN.{length}
use lib.Seq.{sets, slice}
use Rattle.rules.specs.Base.{both}
use Rattle.rules.proofs.Cases.{by-test, true≢false}
use Rattle.state.specs.State.{Counts, Target, word_in}
use Rattle.state.specs.Levels.{page_rest, paged, join_parts, parts_from, from_page}
use Rattle.records.specs.Records.{put}
use Rattle.records.proofs.Stores.{put-sets}

-- what one step makes of the plan
joined-one : (n : ℕ) (page : List ℕ) (p t m : ℕ) (plan plan₁ plan₂ : List ℕ) (size to : ℕ) → size ≡ word_in page (p + 1) → to ≡ p + 3 + size → plan₁ ≡ put plan m (slice to (to + 2) page) → plan₂ ≡ put plan₁ t (slice (p + 3) to page)
    → join_parts n page (to + 2) (t + size) (m + 2) plan₂ ≡ join_parts (suc n) page p t m plan
unfolding join_parts
joined-one n page p t m plan plan₁ plan₂ size to es et e₁ e₂ =
    ap (join_parts n page (to + 2) (t + size) (m + 2)) (e₂ ∙ put-sets plan₁ t (slice (p + 3) to page) ∙ ap (λ (l : List ℕ). sets l t (slice (p + 3) to page)) (e₁ ∙ put-sets plan m (slice to (to + 2) page)))
    ∙ ap (λ (k : ℕ). join_parts n page (k + 2) (t + size) (m + 2) (sets (sets plan m (slice k (k + 2) page)) t (slice (p + 3) k page))) et
    ∙ ap (λ (k : ℕ). join_parts n page (p + 3 + k + 2) (t + k) (m + 2) (sets (sets plan m (slice (p + 3 + k) (p + 3 + k + 2) page)) t (slice (p + 3) (p + 3 + k) page))) es

-- n parts, of which i are joined
module _ (page : List ℕ) (n : ℕ) (plan₀ : List ℕ) (text node : ℕ) where
  pub record Joining (i p t : ℕ) (plan : List ℕ) : Type 0 where
    pub left : join_parts (n - i) page p t (node + 2 * i) plan ≡ join_parts n page 0 text node plan₀
    pub near : p ≤ 65540 * i
    pub texts : t ≤ text + 65535 * i
    pub size : length plan ≡ length plan₀

  pub joining-start : Joining 0 0 text plan₀
  joining-start =
      let none : n - 0 ≡ n = omega arith in
      let first : node + 2 * 0 ≡ node = omega arith in
      record {
        left = ap (λ (k : ℕ). join_parts (n - 0) page 0 text k plan₀) first ∙ ap (λ (k : ℕ). join_parts k page 0 text node plan₀) none;
        near = omega arith;
        texts = omega arith;
        size = refl;
      }

  pub joining-more : (i p t : ℕ) (plan : List ℕ) → Joining i p t plan → i < n → (size to : ℕ) (plan₁ plan₂ : List ℕ)
      → (size ≡ word_in page (p + 1)) × (size < 65536) → to ≡ p + 3 + size → plan₁ ≡ put plan (node + 2 * i) (slice to (to + 2) page)
      → plan₂ ≡ put plan₁ t (slice (p + 3) to page) → length plan₂ ≡ length plan → Joining (i + 1) (to + 2) (t + size) plan₂
  joining-more i p t plan j h size to plan₁ plan₂ es et e₁ e₂ el =
      let more : n - i ≡ suc (n - (i + 1)) = omega (arith, h) in
      let next : node + 2 * (i + 1) ≡ node + 2 * i + 2 = omega arith in
      record {
        left =
            ap (λ (k : ℕ). join_parts (n - (i + 1)) page (to + 2) (t + size) k plan₂) next
            ∙ joined-one (n - (i + 1)) page p t (node + 2 * i) plan plan₁ plan₂ size to es.0 et e₁ e₂
            ∙ ap (λ (k : ℕ). join_parts k page p t (node + 2 * i) plan) (sym more) ∙ j.left;
        near = omega (arith, j.near, es.1, et);
        texts = omega (arith, j.texts, es.1);
        size = el ∙ j.size;
      }

  pub joining-end : (i p t : ℕ) (plan : List ℕ) → Joining i p t plan → n ≤ i → plan ≡ join_parts n page 0 text node plan₀
  unfolding join_parts
  joining-end i p t plan j h =
      let none : 0 ≡ n - i = omega (arith, h) in ap (λ (k : ℕ). join_parts k page p t (node + 2 * i) plan) none ∙ j.left

-- whether there is room
pub no_room : (c : Counts) → page_rest < c.parted → false ≡ paged c
unfolding paged
no_room c h = ap (λ (b : Bool). both b (leb c.rest 2048)) (sym (lt-leb c.parted page_rest h))

pub room : (c : Counts) → c.parted ≤ page_rest → leb c.rest 2048 ≡ paged c
unfolding paged
room c h = ap (λ (b : Bool). both b (leb c.rest 2048)) (sym (le-leb c.parted page_rest h))

-- Parts, joined or apart.
pub parts-joined : (t : Target) (c : Counts) (page plan plan₁ : List ℕ) (n text node : ℕ) → n ≡ c.parts → text ≡ t.parts_at → node ≡ t.nodes_at → t.joining ≡ true → plan₁ ≡ join_parts n page 0 text node plan → plan₁ ≡ parts_from t c page plan
unfolding parts_from
parts-joined t c page plan plan₁ n text node en et em j e =
    by-test (λ (r : List ℕ). plan₁ ≡ r) t.joining (λ _. e ∙ (λ i. join_parts (en i) page 0 (et i) (em i) plan)) (λ q. absurd (true≢false (sym j ∙ q)))

pub parts-apart : (t : Target) (c : Counts) (page plan plan₁ : List ℕ) (size text : ℕ) → size ≡ c.parted → text ≡ t.parts_at → t.joining ≡ false → plan₁ ≡ put plan text (slice 0 size page) → plan₁ ≡ parts_from t c page plan
unfolding parts_from
parts-apart t c page plan plan₁ size text es et j e =
    by-test (λ (r : List ℕ). plan₁ ≡ r) t.joining (λ q. absurd (true≢false (sym q ∙ j))) (λ _. e ∙ put-sets plan text (slice 0 size page) ∙ (λ i. sets plan (et i) (slice 0 (es i) page)))

-- then the residuals
pub page-put : (t : Target) (c : Counts) (page plan plan₁ plan₂ : List ℕ) (size rest : ℕ) → size ≡ c.rest → rest ≡ t.rest_at → plan₁ ≡ parts_from t c page plan → plan₂ ≡ put plan₁ rest (slice page_rest (page_rest + size) page) → plan₂ ≡ from_page t c page plan
unfolding from_page
page-put t c page plan plan₁ plan₂ size rest es er e₁ e₂ =
    e₂ ∙ put-sets plan₁ rest (slice page_rest (page_rest + size) page) ∙ (λ i. sets (e₁ i) (er i) (slice page_rest (page_rest + es i) page))
