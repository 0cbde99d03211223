-- What is worn at the limits, and what is refused then.
use Rattle.std.proofs.Common.{◌≡◌, ℕ, Bool, true, false, not, Option, Some, None, cond, refl, ap, ◌∙◌}
use Rattle.std.specs.Option.{option_map, option_or}
use Rattle.rk_types.specs.declared.call.Call.{Call}
use Rattle.rk_world.specs.Client.{Session}
use Rattle.rk_world.specs.Ledger.{is_added}
use Rattle.rk_world.specs.Refusals.{WORN_BYTES, WORN_NUMBER, ask_refusal, comes_anyway, fault_of, refusal}
use Rattle.rk_world.specs.Refusals.{too_great, where_true, worn, worn_session}
use Rattle.rk_world.specs.World.{World, bytes_of_logs}
use Rattle.rk_world.specs.declared.error.StepError.{StepError}
use Rattle.rk_world.specs.declared.error.StepError.TheVariants as errors
use Rattle.rk_world.specs.declared.event.Event.{Event}

-- ---- lanes

module _ (w : World) where
  -- what is worn, by the greatest number and the bytes
  worn_by : (number bytes : ℕ) → w.top ≡ number → bytes_of_logs w ≡ bytes
      → worn w ≡ option_or (too_great WORN_NUMBER number) (too_great WORN_BYTES bytes)
  worn_by number bytes top logs =
      ap (λ (n : ℕ). option_or (too_great WORN_NUMBER n) (too_great WORN_BYTES (bytes_of_logs w))) top
      ∙ ap (λ (n : ℕ). option_or (too_great WORN_NUMBER number) (too_great WORN_BYTES n)) logs

  -- a test whose answer does not matter
  either : (b : Bool) (fault : Option StepError) → cond b fault fault ≡ fault
  either true fault = refl
  either false fault = refl

  -- what is refused, by what is worn
  refused_by : (event : Event) (number : Option ℕ) → comes_anyway event ≡ false → worn w ≡ number
      → refusal w event ≡ option_or (option_map errors.Worn number) (fault_of w event)
  refused_by event number comes is =
      ap (λ (b : Bool). cond b (fault_of w event) (option_or (option_map errors.Worn (worn w)) (fault_of w event))) comes
      ∙ ap (λ (o : Option ℕ). option_or (option_map errors.Worn o) (fault_of w event)) is

  pub below_limits : (event : Event) → w.top ≡ 281474976710655 → bytes_of_logs w ≡ 268435455 → refusal w event ≡ fault_of w event
  below_limits event top logs =
      ap (λ (o : Option ℕ). cond (comes_anyway event) (fault_of w event) (option_or (option_map errors.Worn o) (fault_of w event)))
      (worn_by 281474976710655 268435455 top logs)
      ∙ either (comes_anyway event) (fault_of w event)

  pub worn_number : (event : Event) → comes_anyway event ≡ false → w.top ≡ 281474976710656
      → refusal w event ≡ Some (errors.Worn 281474976710656)
  worn_number event comes top = refused_by event (Some 281474976710656) comes (worn_by 281474976710656 (bytes_of_logs w) top refl)

  pub worn_bytes : (event : Event) → comes_anyway event ≡ false → w.top ≡ 281474976710655 → bytes_of_logs w ≡ 268435456
      → refusal w event ≡ Some (errors.Worn 268435456)
  worn_bytes event comes top logs = refused_by event (Some 268435456) comes (worn_by 281474976710655 268435456 top logs)

-- ---- sessions

module _ (w : World) (session : Session) (calm : worn w ≡ None) where
  -- what a client is refused that was not added
  abbrev stranger : Option StepError
  stranger = where_true (not (is_added w.ledger session.client)) (errors.Stranger session.client)

  -- why a turn is refused, by what is worn of the session
  asked_by : (number : Option ℕ) → worn_session session session.outstanding ≡ number
      → ask_refusal w session ≡ option_or (option_map errors.Worn number) stranger
  asked_by number is =
      ap (λ (o : Option ℕ). option_or (option_map errors.Worn (option_or o (worn_session session session.outstanding))) stranger) calm
      ∙ ap (λ (o : Option ℕ). option_or (option_map errors.Worn o) stranger) is

  -- what is worn of a session with an outstanding call
  calling_by : (call : Call) (seq seen : ℕ) → session.outstanding ≡ Some call → call.seq ≡ seq → session.seen ≡ seen
      → worn_session session session.outstanding ≡ option_or (too_great WORN_NUMBER seq) (too_great WORN_NUMBER seen)
  calling_by call seq seen asks is saw =
      ap (λ (o : Option Call). worn_session session o) asks
      ∙ ap (λ (n : ℕ). option_or (too_great WORN_NUMBER n) (too_great WORN_NUMBER session.seen)) is
      ∙ ap (λ (n : ℕ). option_or (too_great WORN_NUMBER seq) (too_great WORN_NUMBER n)) saw

  pub below_limit : (call : Call) → session.outstanding ≡ Some call → call.seq ≡ 281474976710655 → session.seen ≡ 281474976710655
      → ask_refusal w session ≡ stranger
  below_limit call asks is saw = asked_by None (calling_by call 281474976710655 281474976710655 asks is saw)

  pub worn_idle : session.outstanding ≡ None → session.seen ≡ 281474976710656 → ask_refusal w session ≡ Some (errors.Worn 281474976710656)
  worn_idle asks saw =
      asked_by (Some 281474976710656) (
      ap (λ (o : Option Call). worn_session session o) asks ∙ ap (λ (n : ℕ). too_great WORN_NUMBER n) saw)

  pub worn_seen : (call : Call) → session.outstanding ≡ Some call → call.seq ≡ 281474976710655 → session.seen ≡ 281474976710656
      → ask_refusal w session ≡ Some (errors.Worn 281474976710656)
  worn_seen call asks is saw = asked_by (Some 281474976710656) (calling_by call 281474976710655 281474976710656 asks is saw)

  pub worn_seq : (call : Call) → session.outstanding ≡ Some call → call.seq ≡ 281474976710656
      → ask_refusal w session ≡ Some (errors.Worn 281474976710656)
  worn_seq call asks is = asked_by (Some 281474976710656) (calling_by call 281474976710656 session.seen asks is refl)
