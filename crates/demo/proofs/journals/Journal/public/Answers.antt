use Rattle.std.proofs.Common.{◌∙◌, ap}
use Rattle.std.specs.Prelude.{Option}
use Rattle.lms_keys.specs.PublicKey.{key_bytes}
use Rattle.lms_keys.specs.Secret.{public_key_of}
use Rattle.lms_keys.specs.HssSecret.{public_by}
use Rattle.lms_keys.specs.declared.below.Below.{Below}
use Rattle.demo.specs.Journals.{Journaled}
use Rattle.demo.proofs.journals.Journal.public.Goals as goal

pub returns : goal.returns
returns c =
    c.public_bytes.ensures
    ∙ ap (λ (below : Option Below). public_by c.self.inside.signer.secret.top below) c.self.invariant.one_level
    ∙ ap (λ (v : Journaled). key_bytes (public_key_of v.secret)) c.self.view_is
