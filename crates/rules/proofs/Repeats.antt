-- Request [8]: "For these diagnostic 4 is no longer made." Nothing else ever made it, so no plan of an accepted file has it.
use mathlib.Core.List.{List}
use Rattle.std.specs.Prelude.{None}
use mathlib.Core.Path.{◌≡◌, subst}
use Prim.Native.Nat.{◌<◌}
use lib.ListN.{length}
use Rattle.rules.specs.Base.{Each, done, more}
use Rattle.rules.specs.File.{Tables, LevelEntry}
use Rattle.rules.specs.Checks.{checks, fault}
use Rattle.rules.specs.Events.{Code, Diagnostic, Lists, bind, constrained, select, report, emit, brings}
use Rattle.rules.specs.Walk.{walk_level}
use Rattle.rules.specs.Levels.{starting, level_of, level, levels_from, levels, left_by}
use Rattle.rules.specs.Plan.{plan_of, plan}
use Rattle.rules.proofs.Each.{each-imply, each_snoc}
use Rattle.rules.proofs.Sound.{BindingOk, Sound, passed-all, sound}
use Rattle.rules.proofs.Keeps.{Reported, Keeps}
use Rattle.rules.proofs.Alone.{walk-keeps}

-- diagnostics of reported codes stay such
abbrev AllReported : Lists → Type 0
AllReported l = Each (λ (d : Diagnostic). Reported d.code) l.diagnostics

reported-keeps : (T : Tables) → Keeps T (λ w w'. AllReported w.lists → AllReported w'.lists)
unfolding bind constrained select report emit brings
reported-keeps T =
    record {
      same = λ w r. r;
      next = λ u v w g h r. h (g r);
      binds = λ x slot w e ok c r. r;
      constrains = λ x w r. r;
      selects = λ a p d w s r. r;
      reports = λ n c h w r. each_snoc r h;
      skips = λ w r. r;
      bounds = λ x t w r. r;
      constants = λ m n t c p w e s r. r;
      registers = λ m a at p w s s' r. r;
      facts = λ m a p w s r. r;
      own-fields = λ m at p w s s' r. r;
      brought = λ slot ty w r. r;
      unions = λ m d p w w' s h r. h r;
    }

left-reported : (T : Tables) → Sound T → (start : Lists) {entries : List LevelEntry} → Each (λ l. l.predicate < length T.predicates) entries
    → Each (BindingOk T) start.bindings → AllReported start → AllReported (left_by start (levels_from T start entries))
unfolding levels_from level level_of left_by
left-reported T S start done fit r = r
left-reported T S start (more {x = l} p ps) fit r =
    let a = walk-keeps T S (λ w w'. AllReported w.lists → AllReported w'.lists) (reported-keeps T) l p start fit in
    left-reported T S (walk_level T l start).lists ps a.1 (a.0 r)

-- of the plan of every accepted file
pub never-repeated : (T : Tables) → fault checks T ≡ None → Each (λ (d : Diagnostic). d.code ≡ Code.NyiRepeatedVariable → ⊥) (plan T).diagnostics
unfolding plan plan_of levels starting
never-repeated T f =
    let S = sound T (passed-all T f) in
    each-imply (λ d r e. subst Reported e r) (left-reported T S (starting T) S.levels S.bindings done)
