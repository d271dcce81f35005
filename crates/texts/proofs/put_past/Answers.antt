use native.Mathlib.Omega.{arith}
use Rattle.constant.proofs.Arms.{stood-in, int-inside}
use Rattle.texts.proofs.Past.{put-int, put_other}
use borrow.Author.Rules.{rules}
use Rattle.texts.proofs.put_past.Goals as goal

pub node_at-requires : goal.node_at-requires
node_at-requires c = stood-in _ _ c.args.file.now.accepted _ _ c.requires.node_in_bounds c.folded-m.ensures

pub put_i64-requires : goal.put_i64-requires
put_i64-requires c = (int-inside _ _ _ _ c.node_at.ensures.shows c.in-Int.is, omega (arith, c.requires.room_for_bytes.room))

pub returns-in-Int : goal.returns-in-Int
returns-in-Int c = put-int _ _ _ _ _ _ c.requires.file_len_bound c.folded-m.ensures c.node_at.ensures.shows _ c.in-Int.is _ _ _ _ c.requires.room_for_bytes c.put_i64.ensures

pub returns-in_default : goal.returns-in_default
returns-in_default c = put_other _ _ _ _ _ _ c.requires.file_len_bound c.folded-m.ensures c.node_at.ensures.shows _ _ (search rules)
