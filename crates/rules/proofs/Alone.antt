-- What each primitive of the walk keeps, the walk keeps: the two runs of Runs.antt with no second run, a keeper of nothing that has stopped.
use mathlib.Core.Bool.{true}
use Rattle.std.specs.Prelude.{None}
use mathlib.Core.Path.{refl}
use Prim.Native.Nat.{ℕ, ◌<◌}
use lib.ListN.{length}
use Rattle.rules.specs.Base.{Each}
use Rattle.rules.specs.File.{Tables, LevelEntry, predicate_at}
use Rattle.rules.specs.Constant.{constant}
use Rattle.rules.specs.Events.{Lists, Walk, Ops}
use Rattle.rules.specs.Walk.{fresh_walk, walk_level}
use Rattle.rules.proofs.Cases.{true≢false}
use Rattle.rules.proofs.Each.{Any, each_all}
use Rattle.rules.proofs.Keeps.{Keeps}
use Rattle.rules.proofs.Runs.{Numbers, Sim, goes-key}
use Rattle.rules.proofs.Sound.{BindingOk, Sound}

abbrev Nothing : Type 0
Nothing = Unit {0}

abbrev nothing-kept : Tables → Ops Nothing
nothing-kept T =
    record {
      lookup = λ s x. None;
      constant = λ s n t. constant T n t;
      reported = λ s. 0;
      bind = λ x slot s. s;
      constrained = λ x s. s;
      select = λ a path disc s. s;
      report = λ n code s. s;
      narrow = λ n path x s. s;
      skip = λ s. s;
      closer = λ n s. s;
      bound = λ x t s. s;
      brings = λ slot ty s. s;
    }

pub any-numbers : (T : Tables) → Numbers T Any Any
any-numbers T = record { scalar = tt; first = λ t i fs e l. tt; next = λ p t i fs h e l. tt; tag = λ p t alts h e. each_all alts (λ a. tt); names = λ n x e. tt }

alone : (T : Tables) (address : ℕ) (M : Walk → Walk → Type 0) → Sim T Any Any (nothing-kept T) (λ s. true) address M (λ w s. Nothing)
alone T address M =
    record {
      idle = λ s e. record { bind = λ x slot. refl; constrained = λ x. refl; select = λ a path disc. refl; report = λ n code. refl; narrow = λ n path x. refl; skip = refl; closer = λ n. refl; bound = λ x t. refl; brings = λ slot ty. refl };
      stays = λ a a' s e m r. tt;
      lookups = λ a s f e r x. absurd (true≢false e);
      reported = λ a b s s' e e' r r'. absurd (true≢false e);
      constant-is = λ a s r n t. refl;
      fields = λ x t p a s e n k r. tt;
      keys = λ x t a s e n l r. tt;
      constrains = λ x a s r. tt;
      selects = λ n p d a s k r. tt;
      reports = λ n code a s r. tt;
      skips = λ a s r. tt;
      bounds = λ x t a s r. tt;
      constants = λ m n t k p a s e h r. tt;
      registers = λ m n at p a s h h' r. tt;
      facts = λ m n p a s h r. tt;
      own-fields = λ m at p a s h h' r. tt;
      tags = λ m d p a s h r. tt;
      closers = λ m a s r. tt;
      brought = λ slot ty a s r. tt;
    }

-- a level of an accepted file, from bindings that fit
pub walk-keeps : (T : Tables) (S : Sound T) (R : Walk → Walk → Type 0) → Keeps T R → (l : LevelEntry) → l.predicate < length T.predicates → (lists : Lists) → Each (BindingOk T) lists.bindings → R (fresh_walk lists) (walk_level T l lists) × Each (BindingOk T) (walk_level T l lists).lists.bindings
unfolding walk_level
walk-keeps T S R K l h lists fit =
    let a = goes-key T S Any Any (any-numbers T) (nothing-kept T) (λ s. true) l.address R (λ w s. Nothing) K (alone T l.address R) l.node (predicate_at T l.predicate).key (fresh_walk lists) tt (S.keys l.predicate h) fit tt in
    (a.grew, a.fit)
