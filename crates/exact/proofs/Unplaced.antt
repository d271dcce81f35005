-- What a level that a key passes after an event says of the event.
use mathlib.Core.Bool.{Bool, true, false}
use mathlib.Core.List.{List, [], ◌∷◌, ◌++◌, append_assoc}
use Rattle.std.specs.Prelude.{Option, None, Some}
use mathlib.Core.Path.{◌≡◌, refl, sym, ap, ◌∙◌, subst}
use Prim.Native.Nat.{ℕ}
use lib.ListN.{length, drop}
use lib.Seq.{drop-append_seam}
use Rattle.rules.specs.Base.{Each, more}
use Rattle.rules.specs.File.{Ty, Tables, FieldPath, Anchor}
use Rattle.rules.specs.Constant.{union_tag}
use Rattle.rules.specs.Events.{Narrowing, Event}
use Rattle.rules.specs.Placement.{SeekKeyPart, RangeEdge, SeekBuilder, with_part, with_residual, with_guide, with_range, with_edges, fall, place_part, place_prefix, attachable, place_fuzzy, place_own, fold_from, place_bound}
use Rattle.rules.proofs.Cases.{by-test, true≢false, both_left, both_right}
use Rattle.exact.specs.Values.{Value, encode}
use Rattle.exact.specs.Keys.{Engine, value_at, says, holds}
use Rattle.exact.specs.Passes.{part_bytes, parts_bytes, first_value, above, under, within}
use Rattle.exact.specs.Placings.{placement, open_placings}
use Rattle.exact.proofs.Bytes.{Starts}
use Rattle.exact.proofs.Ends.{Apart, Whole, first-value}
use Rattle.exact.proofs.Placing.{Becomes, Edged, parts-snoc, Passing, Ready}
use Rattle.exact.proofs.Unique.{cancel}

pub each-end : {A : Type 0} {P : A → Type 0} (xs : List A) (x : A) → Each P (xs ++ (x ∷ [])) → P x
each-end [] x (more p h) = p
each-end (y ∷ xs) x (more p h) = each-end xs x h

-- one of two things
pub data Or (A B : Type 0) : Type 0 where
  left : A → Or A B
  right : B → Or A B

module _ (engine : Engine) (ty : Ty) (key : Value) where
  place-part-back : (n : ℕ) (part : SeekKeyPart) (path : FieldPath) (op : Narrowing) (b : SeekBuilder) (x : List ℕ) → Ready engine ty key b x → Passing engine ty key (place_part n part path op b)
      → Or ((b.building ≡ true) × Starts (part_bytes engine part) x) (holds engine ty key path op ≡ true)
  unfolding place_part with_part with_residual
  place-part-back n part path op b x r p =
      by-test (λ (b' : SeekBuilder). Passing engine ty key b' → Or ((b.building ≡ true) × Starts (part_bytes engine part) x) (holds engine ty key path op ≡ true)) b.building
      (λ on q.
      let s = q.starts in
      left (
        on,
        (
          s.0,
          cancel (parts_bytes engine b.parts) x (part_bytes engine part ++ s.0)
              (sym (r.ahead on) ∙ s.1 ∙ ap (λ (l : List ℕ). l ++ s.0) (parts-snoc engine b.parts (record { key = part; node = n })) ∙ append_assoc (parts_bytes engine b.parts) (part_bytes engine part) s.0),
        ),
      ))
      (λ off q. right (each-end b.residuals (record { path = path; op = op; node = n }) q.residuals)) p

  -- a part reaches into what is ahead, or the narrowing holds
  pub part-back : (T : Tables) {op : Narrowing} {part : SeekKeyPart} → Becomes op part → (n : ℕ) (path : FieldPath) (b : SeekBuilder) (x : List ℕ) → Ready engine ty key b x → Passing engine ty key (placement T (Event.narrow n path op) b)
      → Or ((b.building ≡ true) × Starts (part_bytes engine part) x) (holds engine ty key path op ≡ true)
  unfolding open_placings
  part-back T (Becomes.bytes own) n path b x r p = place-part-back n (SeekKeyPart.Bytes own) path (Narrowing.Bytes own) b x r p
  part-back T (Becomes.tag disc) n path b x r p = place-part-back n (SeekKeyPart.Bytes (union_tag disc)) path (Narrowing.Tag disc) b x r p
  part-back T (Becomes.register a at) n path b x r p = place-part-back n (SeekKeyPart.RegisterField a at) path (Narrowing.RegisterField a at) b x r p
  part-back T (Becomes.fact a) n path b x r p = place-part-back n (SeekKeyPart.RegisterFactId a) path (Narrowing.FactId a) b x r p

  pub prefix_back : (T : Tables) (n : ℕ) (path : FieldPath) (prefix : List ℕ) (b : SeekBuilder) (x : List ℕ) → Ready engine ty key b x → Passing engine ty key (placement T (Event.narrow n path (Narrowing.Prefix prefix)) b)
      → Or (Starts prefix x) (holds engine ty key path (Narrowing.Prefix prefix) ≡ true)
  unfolding open_placings place_prefix with_range with_residual fall
  prefix_back T n path prefix b x r p =
      by-test (λ (b' : SeekBuilder). Passing engine ty key b' → Or (Starts prefix x) (holds engine ty key path (Narrowing.Prefix prefix) ≡ true)) b.building
      (λ on q.
      let s = q.range (record { path = path; prefix = prefix; node = n }) refl in
      left (s.0, cancel (parts_bytes engine b.parts) x (prefix ++ s.0) (sym (r.ahead on) ∙ s.1 ∙ append_assoc (parts_bytes engine b.parts) prefix s.0)))
      (λ off q. right (each-end b.residuals (record { path = path; op = Narrowing.Prefix prefix; node = n }) q.residuals)) p

  pub fuzzy-back : (T : Tables) (n : ℕ) (path : FieldPath) (x distance : ℕ) (anchor : Anchor) (b : SeekBuilder) → Passing engine ty key (placement T (Event.narrow n path (Narrowing.Fuzzy x distance anchor)) b) → holds engine ty key path (Narrowing.Fuzzy x distance anchor) ≡ true
  unfolding open_placings place_fuzzy with_guide with_residual fall
  fuzzy-back T n path x distance anchor b p =
      by-test (λ (b' : SeekBuilder). Passing engine ty key b' → holds engine ty key path (Narrowing.Fuzzy x distance anchor) ≡ true) (attachable b path)
      (λ on q. q.guide (record { path = path; term = x; distance = distance; anchor = anchor; node = n }) refl)
      (λ off q. each-end b.residuals (record { path = path; op = Narrowing.Fuzzy x distance anchor; node = n }) q.residuals) p

  pub own_back : (T : Tables) (n : ℕ) (path at : FieldPath) (b : SeekBuilder) → Passing engine ty key (placement T (Event.narrow n path (Narrowing.OwnField at)) b) → holds engine ty key path (Narrowing.OwnField at) ≡ true
  unfolding open_placings place_own with_residual fall
  own_back T n path at b p = each-end b.residuals (record { path = path; op = Narrowing.OwnField at; node = n }) p.residuals

  pub held-says : (path : FieldPath) (op : Narrowing) (v : Value) → value_at ty key path ≡ Some v → holds engine ty key path op ≡ true → says engine ty key op v ≡ true
  unfolding holds
  held-says path op v e h = ap (λ (o : Option Value). elim o as (λ _. Bool) [ Some w ↦ says engine ty key op w | None ↦ false ]) (sym e) ∙ h

  within-edged : (lo hi : Option RangeEdge) (w : List ℕ) → Edged lo hi (Some w) → (above lo w ≡ true) × (under hi w ≡ true)
  unfolding within above under
  within-edged None None w h = (refl, refl)
  within-edged None (Some hi) w h = (refl, h)
  within-edged (Some lo) hi w h = (both_left (above (Some lo) w) (under hi w) h, both_right (above (Some lo) w) (under hi w) h)

  -- the edges of a bound
  pub bound-back : (T : Tables) (x t : ℕ) (b : SeekBuilder) (v : Value) (r : List ℕ) → Whole v → Apart r → b.building ≡ true → Ready engine ty key b (encode v ++ r) → Passing engine ty key (placement T Event.skip (placement T (Event.bound x t) b))
      → (above (fold_from T x t 0 T.comparisons b.edges).lo (encode v) ≡ true) × (under (fold_from T x t 0 T.comparisons b.edges).hi (encode v) ≡ true)
  unfolding open_placings place_bound with_edges fall
  bound-back T x t b v r w a on rd p =
      by-test (λ (b' : SeekBuilder). Passing engine ty key (fall b') → (above (fold_from T x t 0 T.comparisons b.edges).lo (encode v) ≡ true) × (under (fold_from T x t 0 T.comparisons b.edges).hi (encode v) ≡ true)) b.building
      (λ _ q.
      within-edged (fold_from T x t 0 T.comparisons b.edges).lo (fold_from T x t 0 T.comparisons b.edges).hi (encode v)
      (subst (Edged (fold_from T x t 0 T.comparisons b.edges).lo (fold_from T x t 0 T.comparisons b.edges).hi)
      (ap first_value (ap (drop (length (parts_bytes engine b.parts))) (rd.ahead on) ∙ drop-append_seam (parts_bytes engine b.parts) (encode v ++ r)) ∙ first-value v r w a) q.edges))
      (λ off. absurd (true≢false (sym on ∙ off))) p
