use native.Mathlib.Omega.{arith}
use Rattle.texts.proofs.Sizes.{node_in_lem, here, empty-text, whole-text}
use Rattle.texts.proofs.put_text.Goals as goal

pub returns-then-n-eq0 : goal.returns-then-n-eq0
returns-then-n-eq0 c = empty-text _ _ _ _ c.bytes_len-n.ensures _ c.requires.1 _ _ c.put16.ensures c.if-n-eq0.true

pub put_constant-requires : goal.put_constant-requires
put_constant-requires c =
    let b = c.bytes_len-n in
    let z = c.if-n-eq0.false in
    record { node_in_bounds = node_in_lem _ _ _ _ b.ensures z; ty_in_bounds = omega (arith, c.if-ty-count_of.true, c.count_of.ensures); room_for_bytes = here _ _ _ _ b.ensures _ c.requires.1 z c.requires.0 }

pub put_past-requires : goal.put_past-requires
put_past-requires c =
    let b = c.bytes_len-n in
    let z = c.if-n-eq0.false in
    record { node_in_bounds = node_in_lem _ _ _ _ b.ensures z; file_len_bound = omega (arith, c.if-ty-count_of.false, c.count_of.ensures); room_for_bytes = here _ _ _ _ b.ensures _ c.requires.1 z c.requires.0 }

pub returns-then-ty-count_of : goal.returns-then-ty-count_of
returns-then-ty-count_of c = whole-text _ _ _ _ c.bytes_len-n.ensures _ c.requires.1 _ _ c.put16.ensures _ _ c.put_constant.ensures

pub returns-else-ty-count_of : goal.returns-else-ty-count_of
returns-else-ty-count_of c = whole-text _ _ _ _ c.bytes_len-n.ensures _ c.requires.1 _ _ c.put16.ensures _ _ c.put_past.ensures
