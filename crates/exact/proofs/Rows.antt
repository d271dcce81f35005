-- The worked keys, each by computing.
use mathlib.Core.Bool.{true}
use mathlib.Core.Path.{◌≡◌, refl}
use Rattle.rules.specs.Base.{all}
use Rattle.exact.specs.Rows.{holds, parts, ranges, residuals, zero_bytes, files, is_plain, open_exact}

pub parts-hold : all holds parts ≡ true
unfolding open_exact
parts-hold = refl

pub ranges-hold : all holds ranges ≡ true
unfolding open_exact
ranges-hold = refl

pub residuals-hold : all holds residuals ≡ true
unfolding open_exact
residuals-hold = refl

pub zero-bytes-hold : all holds zero_bytes ≡ true
unfolding open_exact
zero-bytes-hold = refl

pub files-plain : all is_plain files ≡ true
unfolding open_exact
files-plain = refl
