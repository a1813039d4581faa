-- The references of a demonstration have names.
use Rattle.std.proofs.Common.{lit≤, refl}
use Rattle.std.proofs.Math.Utf8.{encode}
use Rattle.git_object.specs.Names.{IsRefName}
use Rattle.demo.specs.Histories.{main_name}

pub main_is_named : IsRefName main_name
unfolding encode
main_is_named = record {
  begins = refl;
  utf8 = (main_name, (refl, refl));
  short = lit≤ tt;
  few = lit≤ tt;
  whole = refl;
  plain = refl;
  no_dots = refl;
  no_at = refl;
  no_dot_last = refl;
}
