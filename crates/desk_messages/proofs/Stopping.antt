-- What was sent and read where no answer came.
use Rattle.std.proofs.Common.{◌≡◌, ◌<◌, ◌++◌, ◌⊎◌, inl, inr, ℕ, List, [], length, refl, sym, ap, ◌∙◌, append-nil, arith, length-append}
use Rattle.std.specs.Prelude.{Option, Some, None, OnErr, Result, Ok, Err}
use Rattle.octets.specs.Content.{GainsPart, with_end, with_front}
use Rattle.desk_messages.specs.Reading.{HasFront}
use Rattle.desk_messages.specs.ClientAsking.{HasStopped}
use Rattle.desk_messages.specs.Requests.{request_text}

end_of_none : (told : Option (List ℕ)) → told ≡ with_end told []
end_of_none None = refl
end_of_none (Some before) = ap Some (sym (append-nil before))

some_sent : (push : List ℕ) → 0 < length (request_text push)
some_sent push = omega arith

module _ (given given_now left left_now : Option (List ℕ)) (push : List ℕ) where
  pub unsent : given_now ≡ given → left_now ≡ left → HasStopped given given_now left left_now push
  unsent same unread = inl (
    record { front = []; rest = request_text push; whole = refl; less = some_sent push; gained = same ∙ end_of_none given },
    unread,
  )

  pub sent_in_part : GainsPart given given_now (request_text push) → left_now ≡ left → HasStopped given given_now left left_now push
  sent_in_part part unread = inl (part, unread)

  pub sent : given_now ≡ with_end given (request_text push) → HasFront left left_now → HasStopped given given_now left left_now push
  sent whole front = inr (whole, front)
