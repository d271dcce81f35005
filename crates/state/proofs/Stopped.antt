-- Once the plan is too long every operation leaves the memory as it is, and so does the whole walk (rules, proofs/Idle.antt).
use mathlib.Core.Bool.{true, false}
use mathlib.Core.Path.{◌≡◌, refl, sym, ◌∙◌}
use Rattle.rules.specs.File.{Tables}
use Rattle.rules.proofs.Cases.{by-test, true≢false}
use Rattle.rules.proofs.Idle.{Idle}
use Rattle.state.specs.State.{State, unless}
use Rattle.state.specs.Ops.{ops, bind, constrained, select, report, narrow, skip, closer, bound}

pub unless-over : (f : State → State) (s : State) → s.over ≡ true → unless f s ≡ s
unfolding unless
unless-over f s h = by-test (λ r. r ≡ s) s.over (λ e. refl) (λ e. absurd (true≢false (sym h ∙ e)))

pub unless-live : (f : State → State) (s : State) → s.over ≡ false → unless f s ≡ f s
unfolding unless
unless-live f s h = by-test (λ r. r ≡ f s) s.over (λ e. absurd (true≢false (sym e ∙ h))) (λ e. refl)

pub stopped : (T : Tables) (s : State) → s.over ≡ true → Idle (ops T) s
unfolding bind constrained select report narrow skip closer bound
stopped T s h =
    record {
      bind = λ x slot. unless-over _ s h;
      constrained = λ x. unless-over _ s h;
      select = λ a path disc. unless-over _ s h;
      report = λ n code. unless-over _ s h;
      narrow = λ n path x. unless-over _ s h;
      skip = unless-over _ s h;
      closer = λ n. unless-over _ s h;
      bound = λ x t. unless-over _ s h;
      brings = λ slot ty. refl;
    }
