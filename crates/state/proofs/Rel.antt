-- What the memory has to do with the written rules' walk, and that each operation on the level keeps it.
use mathlib.Core.Bool.{Bool, true, false}
use mathlib.Core.List.{List, [], ◌∷◌, ◌++◌, append-nil, append_assoc}
use mathlib.Core.Path.{◌≡◌, refl, sym, ap, ◌∙◌, subst}
use Prim.Native.Nat.{ℕ, ◌+◌, ◌-◌, ◌≤◌, ◌<◌}
use native.Mathlib.Omega.{arith}
use borrow.Author.Tests.{le-leb, leb-false}
use lib.Dec.{leb}
use lib.ListN.{length, length-append}
use lib.Seq.{sets}
use Rattle.rules.specs.Base.{all, concat_map}
use Rattle.rules.specs.Limits.{plan_limit}
use Rattle.rules.specs.File.{Tables, FieldPath, Anchor}
use Rattle.rules.specs.Constant.{term}
use Rattle.rules.specs.Events.{Narrowing, Lists, Walk}
use Rattle.rules.specs.Placement.{SeekKeyPart, Part, Residual, Range, Guide, SeekBuilder, with_part, with_residual, with_guide, with_range, with_edges, with_closer, fall, place_part, place_prefix, attachable, place_fuzzy, place_own, place_narrowing, place_closer, place_bound}
use Rattle.rules.specs.Plan as Plan
use Rattle.rules.proofs.Cases.{by-test, true≢false, leb-le}
use Rattle.rules.proofs.Choices.{by-test₂}
use Rattle.state.specs.State.{Ends, Counts, counts, Level, Target, State, state, stop, unless, fits}
use Rattle.state.specs.Ops as Ops
use Rattle.state.specs.Ops.{stored, append, append_down, append_counted, recount, narrowed, grow, put_made, part_at, node_at, part_put, put_part, put_residual, narrow_part, narrow_prefix, narrow_fuzzy, narrow_own, relevel, closed, close, bound_level}
use Rattle.state.proofs.Seqs.{sets-append, sets-before, concat_map-snoc, length-snoc}
use Rattle.state.proofs.Stopped.{unless-over, unless-live}
use Rattle.state.proofs.Mem.{Mem}
use Rattle.state.proofs.Sizes.{text_of, plain_part, summary, weight, part_length, rest_form, residual-length, all_snoc, Sane, summary-long}
use Rattle.state.proofs.Growth.{built, met, list_size, size, Grew}

-- the counts of a level that has these parts and nothing else
abbrev pub counts_of : List Part → Counts
counts_of parts = counts 0 0 (length parts) 0 (length (concat_map text_of parts)) (length (concat_map Plan.part parts)) 0

-- the plan with parts written one after another, each where the parts before it leave off
unfoldable pub parts_put : Target → List Part → List Part → List ℕ → List ℕ
parts_put t before [] plan = plan
parts_put t before (p ∷ parts) plan = parts_put t (before ++ (p ∷ [])) parts (part_put t (counts_of before) p plan)

-- the plan while a level is written: its parts and its residuals so far, at their places
unfoldable pub plan_as : Target → List ℕ → SeekBuilder → List ℕ
plan_as t base b = sets (parts_put t [] b.parts base) t.rest_at (concat_map Plan.residual b.residuals)

-- While there is room: the lists in their runs, the level's summary, the bytes written. t and base are the walk's target and the plan that it began with.
pub record Good (T : Tables) (t : Target) (base : List ℕ) (l : Lists) (n : ℕ) (b : SeekBuilder) (c : State) : Type 0 where
  pub mem : Mem T l c.ends c.work
  pub level : c.level ≡ summary n b
  pub target : c.target ≡ t
  pub plan : c.plan ≡ plan_as t base b

-- Once there is none: lists and level are longer than a plan may be.
pub record RelAt (T : Tables) (t : Target) (base : List ℕ) (l : Lists) (n : ℕ) (b : SeekBuilder) (c : State) : Type 0 where
  pub sane : Sane n b
  pub live : c.over ≡ false → Good T t base l n b c
  pub dead : c.over ≡ true → plan_limit < list_size T l + weight b

abbrev pub Rel : Tables → Target → List ℕ → Walk → State → Type 0
Rel T t base w c = RelAt T t base w.lists (met w) (built T w) c

module _ (T : Tables) (t : Target) (base : List ℕ) where
  pub of-good : (l : Lists) (n : ℕ) (b : SeekBuilder) (c : State) → c.over ≡ false → Sane n b → Good T t base l n b c → RelAt T t base l n b c
  of-good l n b c e s g = record { sane = s; live = λ q. g; dead = λ q. absurd (true≢false (sym q ∙ e)) }

  pub of-long : (l : Lists) (n : ℕ) (b : SeekBuilder) (c : State) → c.over ≡ true → Sane n b → plan_limit < list_size T l + weight b → RelAt T t base l n b c
  of-long l n b c e s h = record { sane = s; live = λ q. absurd (true≢false (sym e ∙ q)); dead = λ q. h }

  -- once stopped, what is too long stays too long
  pub rel-stays : (w w' : Walk) (c : State) → c.over ≡ true → Grew T w w' → Rel T t base w c → Rel T t base w' c
  unfolding size
  rel-stays w w' c e g r = of-long w'.lists (met w') (built T w') c e (g.sane r.sane) (omega (arith, r.dead e, g.size))

  -- an operation: where there is room it does as f does
  pub rel-unless : (w w' : Walk) (c : State) (f : State → State) → Grew T w w' → Rel T t base w c → (c.over ≡ false → Good T t base w.lists (met w) (built T w) c → Sane (met w') (built T w') → Rel T t base w' (f c)) → Rel T t base w' (unless f c)
  rel-unless w w' c f g r k = go c.over refl
    where
      go : (o : Bool) → c.over ≡ o → Rel T t base w' (unless f c)
      go true e = subst (Rel T t base w') (sym (unless-over f c e)) (rel-stays w w' c e g r)
      go false e = subst (Rel T t base w') (sym (unless-live f c e)) (k e (r.live e) (g.sane r.sane))

  -- A record appended to a list, if it has room.
  rel-stored : (l : Lists) (n : ℕ) (b : SeekBuilder) (c : State) (room : Bool) (at : ℕ) (bytes : List ℕ) (also : List ℕ → List ℕ) (moved : Ends) → c.over ≡ false → Sane n b
      → (room ≡ true → Good T t base l n b (state c.over moved c.level c.target (also (sets c.work at bytes)) c.plan))
      → (room ≡ false → plan_limit < list_size T l + weight b) → RelAt T t base l n b (stored room at bytes also moved c)
  unfolding stored stop
  rel-stored l n b c room at bytes also moved e s g h = by-test (RelAt T t base l n b) room (λ q. of-good l n b _ e s (g q)) (λ q. of-long l n b _ refl s (h q))

  pub rel-append : (l : Lists) (n : ℕ) (b : SeekBuilder) (c : State) (at limit : ℕ) (bytes : List ℕ) (also : List ℕ → List ℕ) (move : ℕ → Ends) → c.over ≡ false → Sane n b
      → (at + length bytes ≤ limit → Good T t base l n b (state c.over (move (at + length bytes)) c.level c.target (also (sets c.work at bytes)) c.plan))
      → (limit < at + length bytes → plan_limit < list_size T l + weight b) → RelAt T t base l n b (append at limit bytes also move c)
  unfolding append
  rel-append l n b c at limit bytes also move e s g h =
      rel-stored l n b c (leb (at + length bytes) limit) at bytes also (move (at + length bytes)) e s (λ q. g (leb-le (at + length bytes) limit q)) (λ q. h (leb-false (at + length bytes) limit q))

  pub rel-down : (l : Lists) (n : ℕ) (b : SeekBuilder) (c : State) (at limit : ℕ) (bytes : List ℕ) (move : ℕ → Ends) → c.over ≡ false → Sane n b
      → (limit + length bytes ≤ at → Good T t base l n b (state c.over (move (at - length bytes)) c.level c.target (sets c.work (at - length bytes) bytes) c.plan))
      → (at < limit + length bytes → plan_limit < list_size T l + weight b) → RelAt T t base l n b (append_down at limit bytes move c)
  unfolding append_down
  rel-down l n b c at limit bytes move e s g h =
      rel-stored l n b c (leb (limit + length bytes) at) (at - length bytes) bytes (λ work. work) (move (at - length bytes)) e s (λ q. g (leb-le (limit + length bytes) at q)) (λ q. h (leb-false (limit + length bytes) at q))

  pub rel-counted : (l : Lists) (n : ℕ) (b : SeekBuilder) (c : State) (count at limit : ℕ) (bytes : List ℕ) (also : List ℕ → List ℕ) (move : ℕ → Ends) → count ≤ plan_limit → RelAt T t base l n b (append at limit bytes also move c) → RelAt T t base l n b (append_counted count at limit bytes also move c)
  unfolding append_counted
  rel-counted l n b c count at limit bytes also move h r =
      by-test (RelAt T t base l n b) (leb count 65534) (λ q. r) (λ q. absurd (true≢false (sym (le-leb count 65534 (omega arith)) ∙ q)))

  -- The level changed, and the plan with it.
  rel-grow : (l : Lists) (n m : ℕ) (b b' : SeekBuilder) (c : State) (level : Level) (write : List ℕ → List ℕ) → c.over ≡ false → Good T t base l n b c → Sane m b' → level ≡ summary m b' → write c.plan ≡ plan_as t base b' → RelAt T t base l m b' (grow level write c)
  unfolding grow stop
  rel-grow l n m b b' c level write e g s el ep =
      by-test (RelAt T t base l m b') (fits level)
      (λ q. of-good l m b' _ e s (record { mem = g.mem; level = el; target = g.target; plan = ep }))
      (λ q. of-long l m b' _ refl s (omega (arith, summary-long m b' s (ap fits (sym el) ∙ q))))

-- A part: the level and the plan with it.
more-level : (p : Part) (n : ℕ) (b : SeekBuilder) → Ops.with_part p.key (summary n b).counts (summary n b) ≡ summary n (with_part p b)
unfolding summary with_part Ops.with_part
more-level p n b =
    let plain = sym (all_snoc b.parts p) in
    let count = sym (length-append b.parts (p ∷ [])) in
    let joined = sym (length-snoc text_of b.parts p) in
    let parted = ap (λ (k : ℕ). length (concat_map Plan.part b.parts) + k) (sym (part_length p)) ∙ sym (length-snoc Plan.part b.parts p) in
    λ i.
    record {
      building = b.building;
      plain = plain i;
      counts = counts n b.closers (count i) (length b.residuals) (joined i) (parted i) (length (concat_map Plan.residual b.residuals));
      guide = b.guide;
      range = b.range;
      edges = b.edges;
    }

-- as a narrowing, and as a closer
part-level : (p : Part) (n : ℕ) (b : SeekBuilder) → Ops.with_part p.key (narrowed (summary n b).counts) (summary n b) ≡ summary (n + 1) (with_part p b)
unfolding summary Ops.with_part narrowed
part-level p n b = more-level p (n + 1) b

closer-level : (p : Part) (n : ℕ) (b : SeekBuilder) → Ops.with_part p.key (closed (summary n b).counts) (summary n b) ≡ summary n (with_closer (with_part p b))
unfolding summary with_part with_closer Ops.with_part closed
closer-level p n b = more-level p n (with_closer b)

-- one part more is one step more
parts-snoc : (t : Target) (before parts : List Part) (p : Part) (plan : List ℕ) → parts_put t before (parts ++ (p ∷ [])) plan ≡ part_put t (counts_of (before ++ parts)) p (parts_put t before parts plan)
unfolding parts_put
parts-snoc t before [] p plan = ap (λ (ps : List Part). part_put t (counts_of ps) p plan) (sym (append-nil before))
parts-snoc t before (q ∷ parts) p plan =
    parts-snoc t (before ++ (q ∷ [])) parts p (part_put t (counts_of before) q plan)
    ∙ ap (λ (ps : List Part). part_put t (counts_of ps) p (parts_put t before (q ∷ parts) plan)) (append_assoc before (q ∷ []) parts)

-- parts are made before residuals
part-plan : (t : Target) (base : List ℕ) (n : ℕ) (b : SeekBuilder) (p : Part) → b.residuals ≡ [] → part_put t (summary n b).counts p (plan_as t base b) ≡ plan_as t base (with_part p b)
unfolding part_put part_at node_at plan_as summary with_part concat_map
part-plan t base n b p clean =
    ap (λ (rs : List Residual). part_put t (counts_of b.parts) p (sets (parts_put t [] b.parts base) t.rest_at (concat_map Plan.residual rs))) clean
    ∙ sym (parts-snoc t [] b.parts p base)
    ∙ ap (λ (rs : List Residual). sets (parts_put t [] (b.parts ++ (p ∷ [])) base) t.rest_at (concat_map Plan.residual rs)) (sym clean)

-- A residual: the counts, the level and the plan with it.
abbrev rest_counts : Residual → Counts → Counts
rest_counts r c = counts (c.narrowings + 1) c.closers c.parts (c.residuals + 1) c.joined c.parted (c.rest + (length (rest_form r) + 2))

residual-level : (r : Residual) (n : ℕ) (b : SeekBuilder) → recount (rest_counts r (summary n b).counts) (summary n b) ≡ summary (n + 1) (with_residual r b)
unfolding summary with_residual recount
residual-level r n b =
    let count = sym (length-append b.residuals (r ∷ [])) in
    let rest = ap (λ (k : ℕ). length (concat_map Plan.residual b.residuals) + k) (sym (residual-length r)) ∙ sym (length-snoc Plan.residual b.residuals r) in
    λ i.
    record {
      building = b.building;
      plain = all plain_part b.parts;
      counts = counts (n + 1) b.closers (length b.parts) (count i) (length (concat_map text_of b.parts)) (length (concat_map Plan.part b.parts)) (rest i);
      guide = b.guide;
      range = b.range;
      edges = b.edges;
    }

-- written where the residuals before it end
abbrev rest_put : Target → Counts → Residual → List ℕ → List ℕ
rest_put t c r plan = put_made (t.rest_at + c.rest) (rest_form r) (t.rest_at + c.rest + length (rest_form r)) r.node plan

residual-plan : (t : Target) (base : List ℕ) (n : ℕ) (b : SeekBuilder) (r : Residual) → rest_put t (summary n b).counts r (plan_as t base b) ≡ plan_as t base (with_residual r b)
unfolding put_made plan_as summary with_residual Plan.residual
residual-plan t base n b r =
    let parts = parts_put t [] b.parts base in
    let rest = concat_map Plan.residual b.residuals in
    sets-before (sets parts t.rest_at rest) (t.rest_at + length rest) (rest_form r) (Plan.u16 r.node)
    ∙ sym (sets-append parts t.rest_at rest (Plan.residual r))
    ∙ ap (sets parts t.rest_at) (sym (concat_map-snoc Plan.residual b.residuals r))

module _ (T : Tables) (t : Target) (base : List ℕ) (l : Lists) (n : ℕ) (b : SeekBuilder) (c : State) (e : c.over ≡ false) (g : Good T t base l n b c) where
  building-is : c.level.building ≡ b.building
  unfolding summary
  building-is = ap (λ (x : Level). x.building) g.level

  -- the plan with a part more
  part-written : (p : Part) → b.residuals ≡ [] → part_put c.target c.level.counts p c.plan ≡ plan_as t base (with_part p b)
  part-written p clean = (λ i. part_put (g.target i) (g.level i).counts p (g.plan i)) ∙ part-plan t base n b p clean

  rel-part : (p : Part) → b.residuals ≡ [] → Sane (n + 1) (with_part p b) → RelAt T t base l (n + 1) (with_part p b) (put_part p.node p.key (narrowed c.level.counts) c)
  unfolding put_part
  rel-part p clean s =
      rel-grow T t base l n (n + 1) b (with_part p b) c (Ops.with_part p.key (narrowed c.level.counts) c.level) (part_put c.target c.level.counts p) e g s
      (ap (λ (x : Level). Ops.with_part p.key (narrowed x.counts) x) g.level ∙ part-level p n b)
      (part-written p clean)

  rel-residual : (r : Residual) → Sane (n + 1) (with_residual r b) → RelAt T t base l (n + 1) (with_residual r b) (put_residual r.node r.path r.op c)
  unfolding put_residual
  rel-residual r s =
      rel-grow T t base l n (n + 1) b (with_residual r b) c (recount (rest_counts r c.level.counts) c.level) (rest_put c.target c.level.counts r) e g s
      (ap (λ (x : Level). recount (rest_counts r x.counts) x) g.level ∙ residual-level r n b)
      ((λ i. rest_put (g.target i) (g.level i).counts r (g.plan i)) ∙ residual-plan t base n b r)

  -- the level another, parts and residuals as before
  rel-relevel : (m : ℕ) (b' : SeekBuilder) (level : Level) → Sane m b' → level ≡ summary m b' → plan_as t base b ≡ plan_as t base b' → RelAt T t base l m b' (grow level (λ plan. plan) c)
  rel-relevel m b' level s el ep = rel-grow T t base l n m b b' c level (λ plan. plan) e g s el (g.plan ∙ ep)

  -- "a part while building .., else a residual"
  rel-place-part : (node : ℕ) (key : SeekKeyPart) (path : FieldPath) (op : Narrowing) → (b.building ≡ true → b.residuals ≡ []) → Sane (n + 1) (place_part node key path op b) → RelAt T t base l (n + 1) (place_part node key path op b) (narrow_part node key path op c)
  unfolding place_part narrow_part
  rel-place-part node key path op clean s =
      subst (λ (q : Bool). RelAt T t base l (n + 1) (place_part node key path op b) (elim q [ true ↦ put_part node key (narrowed c.level.counts) c | false ↦ put_residual node path op c ])) (sym building-is)
      (by-test₂ (λ b' c'. Sane (n + 1) b' → RelAt T t base l (n + 1) b' c') b.building (λ q. rel-part (record { key = key; node = node }) (clean q)) (λ q. rel-residual (record { path = path; op = op; node = node })) s)

  rel-prefix : (node : ℕ) (path : FieldPath) (prefix : List ℕ) → Sane (n + 1) (place_prefix node path prefix b) → RelAt T t base l (n + 1) (place_prefix node path prefix b) (narrow_prefix node path prefix c)
  unfolding place_prefix narrow_prefix Ops.with_range narrowed with_range fall summary plan_as
  rel-prefix node path prefix s =
      let range : Range = record { path = path; prefix = prefix; node = node } in
      subst (λ (q : Bool). RelAt T t base l (n + 1) (place_prefix node path prefix b) (elim q [ true ↦ grow (Ops.with_range node path prefix c.level) (λ plan. plan) c | false ↦ put_residual node path (Narrowing.Prefix prefix) c ])) (sym building-is)
      (by-test₂ (λ b' c'. Sane (n + 1) b' → RelAt T t base l (n + 1) b' c') b.building
      (λ q s'. rel-relevel (n + 1) (fall (with_range range b)) (Ops.with_range node path prefix c.level) s' (ap (Ops.with_range node path prefix) g.level) refl)
      (λ q. rel-residual (record { path = path; op = Narrowing.Prefix prefix; node = node })) s)

  attachable-is : (path : FieldPath) → Ops.attachable c.level path ≡ attachable b path
  unfolding Ops.attachable attachable summary
  attachable-is path = ap (λ (x : Level). Ops.attachable x path) g.level

  rel-fuzzy : (node : ℕ) (path : FieldPath) (x d : ℕ) (a : Anchor) → Sane (n + 1) (place_fuzzy node path x d a b) → RelAt T t base l (n + 1) (place_fuzzy node path x d a b) (narrow_fuzzy node path x d a c)
  unfolding place_fuzzy narrow_fuzzy Ops.with_guide narrowed with_guide fall summary plan_as
  rel-fuzzy node path x d a s =
      let guide : Guide = record { path = path; term = x; distance = d; anchor = a; node = node } in
      subst (λ (q : Bool). RelAt T t base l (n + 1) (place_fuzzy node path x d a b) (elim q [ true ↦ grow (Ops.with_guide guide c.level) (λ plan. plan) c | false ↦ put_residual node path (Narrowing.Fuzzy x d a) c ])) (sym (attachable-is path))
      (by-test₂ (λ b' c'. Sane (n + 1) b' → RelAt T t base l (n + 1) b' c') (attachable b path)
      (λ q s'. rel-relevel (n + 1) (fall (with_guide guide b)) (Ops.with_guide guide c.level) s' (ap (Ops.with_guide guide) g.level) refl)
      (λ q. rel-residual (record { path = path; op = Narrowing.Fuzzy x d a; node = node })) s)

  -- "building falls"
  pub good-fall : Good T t base l n (fall b) (relevel Ops.fall c)
  unfolding relevel Ops.fall fall summary plan_as
  good-fall = record { mem = g.mem; level = ap Ops.fall g.level; target = g.target; plan = g.plan }

  pub rel-fall : Sane n (fall b) → RelAt T t base l n (fall b) (relevel Ops.fall c)
  unfolding relevel
  rel-fall s = of-good T t base l n (fall b) (relevel Ops.fall c) e s good-fall

  bound-level : (x ty : ℕ) → bound_level T x ty (summary n b) ≡ summary n (place_bound T x ty b)
  unfolding bound_level place_bound summary with_edges Ops.with_edges
  bound-level x ty = by-test₂ (λ (k : Level) (b' : SeekBuilder). k ≡ summary n b') b.building (λ q. refl) (λ q. refl)

  bound-plan : (x ty : ℕ) → plan_as t base b ≡ plan_as t base (place_bound T x ty b)
  unfolding place_bound with_edges plan_as
  bound-plan x ty = by-test (λ (b' : SeekBuilder). plan_as t base b ≡ plan_as t base b') b.building (λ q. refl) (λ q. refl)

  pub rel-bound : (x ty : ℕ) → Sane n (place_bound T x ty b) → RelAt T t base l n (place_bound T x ty b) (relevel (bound_level T x ty) c)
  unfolding relevel
  rel-bound x ty s =
      of-good T t base l n (place_bound T x ty b) (relevel (bound_level T x ty) c) e s
      (record { mem = g.mem; level = ap (bound_level T x ty) g.level ∙ bound-level x ty; target = g.target; plan = g.plan ∙ bound-plan x ty })

  -- one part of byte 00 while building
  rel-closer-part : (p : Part) → b.residuals ≡ [] → Sane n (with_closer (with_part p b)) → RelAt T t base l n (with_closer (with_part p b)) (put_part p.node p.key (closed c.level.counts) c)
  unfolding put_part with_closer plan_as
  rel-closer-part p clean s =
      rel-grow T t base l n n b (with_closer (with_part p b)) c (Ops.with_part p.key (closed c.level.counts) c.level) (part_put c.target c.level.counts p) e g s
      (ap (λ (x : Level). Ops.with_part p.key (closed x.counts) x) g.level ∙ closer-level p n b)
      (part-written p clean)

  pub rel-close : (node : ℕ) → (b.building ≡ true → b.residuals ≡ []) → Sane n (place_closer node b) → RelAt T t base l n (place_closer node b) (close node c)
  unfolding place_closer close
  rel-close node clean s =
      subst (λ (k : Bool). RelAt T t base l n (place_closer node b) (elim k [ true ↦ put_part node (SeekKeyPart.Bytes term) (closed c.level.counts) c | false ↦ c ])) (sym building-is)
      (by-test₂ (λ b' c'. Sane n b' → RelAt T t base l n b' c') b.building
      (λ h. rel-closer-part (record { key = SeekKeyPart.Bytes term; node = node }) (clean h))
      (λ h s'. of-good T t base l n b c e s' g) s)

-- "always as a residual, and building falls there"
rel-own : (T : Tables) (t : Target) (base : List ℕ) (l : Lists) (n : ℕ) (b : SeekBuilder) (c : State) → c.over ≡ false → Good T t base l n b c → (node : ℕ) (path at : FieldPath) → Sane (n + 1) (place_own node path at b) → RelAt T t base l (n + 1) (place_own node path at b) (narrow_own node path at c)
unfolding place_own narrow_own with_residual fall relevel
rel-own T t base l n b c e g node path at s =
    rel-residual T t base l n (fall b) (relevel Ops.fall c) e (good-fall T t base l n b c e g) (record { path = path; op = Narrowing.OwnField at; node = node }) s

pub rel-narrowing : (T : Tables) (t : Target) (base : List ℕ) (l : Lists) (n : ℕ) (b : SeekBuilder) (c : State) → c.over ≡ false → Good T t base l n b c → Sane n b → (node : ℕ) (path : FieldPath) (x : Narrowing) → Sane (n + 1) (place_narrowing node path x b) → RelAt T t base l (n + 1) (place_narrowing node path x b) (Ops.narrowing node path x c)
unfolding place_narrowing Ops.narrowing
rel-narrowing T t base l n b c e g s₀ node path (Narrowing.Bytes bytes) s = rel-place-part T t base l n b c e g node _ path _ s₀.clean s
rel-narrowing T t base l n b c e g s₀ node path (Narrowing.Tag d) s = rel-place-part T t base l n b c e g node _ path _ s₀.clean s
rel-narrowing T t base l n b c e g s₀ node path (Narrowing.RegisterField a at) s = rel-place-part T t base l n b c e g node _ path _ s₀.clean s
rel-narrowing T t base l n b c e g s₀ node path (Narrowing.FactId a) s = rel-place-part T t base l n b c e g node _ path _ s₀.clean s
rel-narrowing T t base l n b c e g s₀ node path (Narrowing.Prefix prefix) s = rel-prefix T t base l n b c e g node path prefix s
rel-narrowing T t base l n b c e g s₀ node path (Narrowing.Fuzzy x d a) s = rel-fuzzy T t base l n b c e g node path x d a s
rel-narrowing T t base l n b c e g s₀ node path (Narrowing.OwnField at) s = rel-own T t base l n b c e g node path at s
