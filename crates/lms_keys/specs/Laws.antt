-- Signatures below one leaf of a top key.
use Rattle.std.specs.Prelude.{◌≡◌, ℕ, ◌/◌, ◌<◌, ◌^◌, List, take, Some}
use Rattle.lms_keys.specs.LmsType.{height}
use Rattle.lms_keys.specs.Secret as one
use Rattle.lms_keys.specs.HssSecret.{link_len, link_of, signature_by}
use Rattle.lms_keys.specs.declared.below.Below.{Below}

-- two signatures that use one leaf of the top key begin with the same signature and the same key after it, which the
-- top
-- key and that leaf determine
abbrev pub OneLink : Type 0
OneLink =
    (top : one.Secret) (below : Below) (g k : ℕ) (m n : List ℕ)
    → g / 2 ^ height below.lms < 2 ^ height top.lms → g / 2 ^ height below.lms ≡ k / 2 ^ height below.lms
    → (take (link_len top) (signature_by top (Some below) g m) ≡ link_of top below (g / 2 ^ height below.lms))
    × (take (link_len top) (signature_by top (Some below) k n) ≡ link_of top below (g / 2 ^ height below.lms))
