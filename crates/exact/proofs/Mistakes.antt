-- The planted mistakes show: with each of them the claim is false of a file and a key, and with the claims' placement it holds there.
use mathlib.Core.Bool.{true}
use mathlib.Core.Path.{◌≡◌, refl}
use Rattle.rules.specs.Base.{all}
use Rattle.exact.specs.Rows.{is_plain}
use Rattle.exact.specs.Mistakes.{shows, agrees, mistakes, shown_files, open_mistakes}

pub mistakes-show : all shows mistakes ≡ true
unfolding open_mistakes
mistakes-show = refl

pub keys-agree : all agrees mistakes ≡ true
unfolding open_mistakes
keys-agree = refl

pub shown-files-plain : all is_plain shown_files ≡ true
unfolding open_mistakes
shown-files-plain = refl
