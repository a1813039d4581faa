use Rattle.lms_keys.proofs.verifying.+verify_signed.Given as goal

abbrev pub decreases-verify_signed : goal.decreases-verify_signed
decreases-verify_signed l = l.count
