use mathlib.Core.Path.{refl, sym, ◌∙◌}
use Rattle.level_frame.proofs.Puts.{put_other, put-joined}
use Rattle.level_frame.proofs.Seeks.{number-is}
use Rattle.level_frame.proofs.put_head.Goals as goal

pub returns-then-is_joining : goal.returns-then-is_joining
returns-then-is_joining c T =
    put-joined _ T _ _ _ _ _ _ _ _ _ _ refl refl refl c.put16.ensures c.put16-2.ensures c.put16-3.ensures
    c.put8.ensures _ _ refl c.put16-then-is_joining.ensures (number-is _ ∙ c.seek_kind.ensures T)
    (sym (c.is_joining.ensures T) ∙ c.if-is_joining.true)

pub returns-else-is_joining : goal.returns-else-is_joining
returns-else-is_joining c T =
    put_other _ T _ _ _ _ _ _ _ _ _ _ refl refl refl c.put16.ensures c.put16-2.ensures c.put16-3.ensures
    c.put8.ensures (number-is _ ∙ c.seek_kind.ensures T) (sym (c.is_joining.ensures T) ∙ c.if-is_joining.false)
