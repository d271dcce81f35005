-- A record appended to a list: one law for those that grow up and one for those that grow down, for where it fits and for where it does not.
use mathlib.Core.Path.{◌≡◌, sym, ap, ◌∙◌}
use mathlib.Core.Bool.{Bool, true, false}
use mathlib.Core.List.{List}
use Prim.Native.Nat.{ℕ, ◌+◌, ◌-◌, ◌≤◌, ◌<◌}
use native.Mathlib.Omega.{arith}
use borrow.Author.Tests.{le-leb, lt-leb}
use lib.ListN.{length}
use lib.Dec.{leb}
use Rattle.rules.proofs.Cases.{pick}
use Rattle.state.specs.State.{Ends, Level, Target, State, state, stop, unless}
use Rattle.state.specs.Ops.{stored, append, append_down, append_counted}
use Rattle.records.specs.Records.{put}
use Rattle.lists.specs.Lists.{state_with, overrun}
use Rattle.lists.specs.declared.Lists.{Lists}

-- unless the plan is too long already
module _ (f : State → State) (s : State) where
  pub over : s.over ≡ true → s ≡ unless f s
  unfolding unless
  over e = sym (pick s.over true s (f s) e)

  pub not-over : (r : State) → s.over ≡ false → r ≡ f s → r ≡ unless f s
  unfolding unless
  not-over r e h = h ∙ sym (pick s.over false s (f s) e)

-- the lists stop
pub stops : (f : State → State) (l r : Lists) (lv : Level) (tg : Target) (w p : List ℕ) → l.over ≡ false → r ≡ overrun l → stop (state_with l lv tg w p) ≡ f (state_with l lv tg w p)
    → state_with r lv tg w p ≡ unless f (state_with l lv tg w p)
unfolding stop
stops f l r lv tg w p e g h = not-over f (state_with l lv tg w p) (state_with r lv tg w p) e (ap (λ (k : Lists). state_with k lv tg w p) g ∙ h)

-- as the test for room comes out
module _ (room : Bool) (at : ℕ) (bytes : List ℕ) (also : List ℕ → List ℕ) (moved : Ends) (s : State) where
  fits : (w : List ℕ) → room ≡ true → w ≡ also (put s.work at bytes) → state s.over moved s.level s.target w s.plan ≡ stored room at bytes also moved s
  unfolding stored put
  fits w h g = ap (λ (v : List ℕ). state s.over moved s.level s.target v s.plan) g ∙ sym (pick room true _ (stop s) h)

  misses : room ≡ false → stop s ≡ stored room at bytes also moved s
  unfolding stored
  misses h = sym (pick room false _ (stop s) h)

-- A list that grows up: `from` is its end and `most` the other's as the code has them.
module _ (at limit : ℕ) (bytes : List ℕ) (also : List ℕ → List ℕ) (move : ℕ → Ends) (s : State) (from end most : ℕ) (f : from ≡ at) (e : end ≡ from + length bytes) (g : most ≡ limit) where
  pub appended : (w : List ℕ) → end ≤ most → w ≡ also (put s.work from bytes) → state s.over (move end) s.level s.target w s.plan ≡ append at limit bytes also move s
  unfolding append
  appended w h k =
      ap (λ (n : ℕ). state s.over (move n) s.level s.target w s.plan) (e ∙ ap (λ (n : ℕ). n + length bytes) f)
      ∙ fits (leb (at + length bytes) limit) at bytes also (move (at + length bytes)) s w (le-leb (at + length bytes) limit (omega arith)) (k ∙ ap (λ (n : ℕ). also (put s.work n bytes)) f)

  pub no_room : most < end → stop s ≡ append at limit bytes also move s
  unfolding append
  no_room h = misses (leb (at + length bytes) limit) at bytes also (move (at + length bytes)) s (lt-leb (at + length bytes) limit (omega arith))

-- One that grows down: `top` is where its newest record begins and `least` the other's end as the code has them.
module _ (at limit : ℕ) (bytes : List ℕ) (move : ℕ → Ends) (s : State) (top least : ℕ) (f : top ≡ at) (g : least ≡ limit) where
  pub appended-down : (w : List ℕ) → least + length bytes ≤ top → w ≡ put s.work (top - length bytes) bytes → state s.over (move (top - length bytes)) s.level s.target w s.plan ≡ append_down at limit bytes move s
  unfolding append_down
  appended-down w h k =
      ap (λ (n : ℕ). state s.over (move (n - length bytes)) s.level s.target w s.plan) f
      ∙ fits (leb (limit + length bytes) at) (at - length bytes) bytes (λ work. work) (move (at - length bytes)) s w (le-leb (limit + length bytes) at (omega arith)) (k ∙ ap (λ (n : ℕ). put s.work (n - length bytes) bytes) f)

  pub no-room-down : top < least + length bytes → stop s ≡ append_down at limit bytes move s
  unfolding append_down
  no-room-down h = misses (leb (limit + length bytes) at) (at - length bytes) bytes (λ work. work) (move (at - length bytes)) s (lt-leb (limit + length bytes) at (omega arith))

-- the same where the list is counted
module _ (count at limit : ℕ) (bytes : List ℕ) (also : List ℕ → List ℕ) (move : ℕ → Ends) (s : State) where
  pub counted : (r : State) → count ≤ 65534 → r ≡ append at limit bytes also move s → r ≡ append_counted count at limit bytes also move s
  unfolding append_counted
  counted r h g = g ∙ sym (pick (leb count 65534) true _ (stop s) (le-leb _ _ h))

  pub too_many : 65534 < count → stop s ≡ append_counted count at limit bytes also move s
  unfolding append_counted
  too_many h = sym (pick (leb count 65534) false _ (stop s) (lt-leb _ _ h))
