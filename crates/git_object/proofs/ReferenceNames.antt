-- The references that gittuf keeps beside that of its log have names.
use Rattle.std.proofs.Common.{lit≤, refl}
use Rattle.std.proofs.Math.Utf8.{encode}
use Rattle.git_object.specs.Names.{IsRefName}
use Rattle.git_object.specs.References.{attestations_name, policy_name}

pub attestations_are_named : IsRefName attestations_name
unfolding encode
attestations_are_named = record {
  begins = refl;
  utf8 = (attestations_name, (refl, refl));
  short = lit≤ tt;
  few = lit≤ tt;
  whole = refl;
  plain = refl;
  no_dots = refl;
  no_at = refl;
  no_dot_last = refl;
}

pub policy_is_named : IsRefName policy_name
unfolding encode
policy_is_named = record {
  begins = refl;
  utf8 = (policy_name, (refl, refl));
  short = lit≤ tt;
  few = lit≤ tt;
  whole = refl;
  plain = refl;
  no_dots = refl;
  no_at = refl;
  no_dot_last = refl;
}
