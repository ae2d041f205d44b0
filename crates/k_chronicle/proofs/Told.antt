-- What is read of a host is a journal that can be printed.
use Rattle.std.proofs.Common.{◌≡◌, ◌∙◌, ℕ, [], List, sym, ap, subst}
use Rattle.std.proofs.lemmas.Bool.{false≢true}
use Rattle.k_types.specs.declared.event.Event.{Event}
use Rattle.k_types.specs.declared.setup.Setup.{Setup}
use Rattle.k_types.specs.State.{opening}
use Rattle.k_types.specs.Steps.{IsLegalHistory}
use Rattle.k_types.specs.Trace.{Trace, trace_of}
use Rattle.k_trace.specs.Named.{DeclaredNames}
use Rattle.k_trace.specs.Rules.{IsTrace}
use Rattle.k_print.proofs.Unread.{legal_unread}
use Rattle.k_state.specs.Setups.{setup_of}
use Rattle.k_keeper.specs.Keeping.{IsKept}
use Rattle.k_keeper.specs.k_guests.Serving.{open_trace}
use Rattle.k_keeper.specs.k_host.Hosts.{HostValue}
use Rattle.k_print.specs.declared.errors.PrintError.{PrintError}
use Rattle.k_print.specs.Printed.{IsJournal, IsNotPrinted, Journal, journal_of}
use Rattle.k_chronicle.specs.declared.errors.ChronicleError.TheVariants.{Print}
use Rattle.k_chronicle.specs.Chronicle.{IsNotTold, journal_in}

module _ (h : HostValue) (left : ℕ) (kept : IsKept h left) (names : DeclaredNames) (setup : Setup) (events : List Event) (named : names ≡ h.basis.names) (declared : open_trace setup ≡ h.basis.trace) (all : events ≡ h.book.journal.list) where
  pub is_journal : IsJournal (journal_of names setup events)
  is_journal = record {
    operations = (open_trace setup).operations;
    order = [];
    is_trace =
        subst (λ (n : DeclaredNames). IsTrace (record { names = n; trace = open_trace setup })) (sym named)
        (subst (λ (t : Trace). IsTrace (record { names = h.basis.names; trace = t })) (sym declared) kept.fit.is_trace);
    second = ap (λ (t : Trace). t.version) declared ∙ kept.fit.second;
    legal =
        subst (λ (es : List Event). IsLegalHistory (trace_of setup [] []) es) (sym all)
        (legal_unread (open_trace setup) (opening (open_trace setup)) h.book.journal.list (subst (λ (t : Trace). IsLegalHistory t h.book.journal.list) (sym declared) kept.serves.rest.book.stands.agrees.legal));
  }

  pub same_journal : journal_of names setup events ≡ journal_in h
  same_journal =
      ap (λ (n : DeclaredNames). record { names = n; trace = trace_of setup [] []; history = events }) named
      ∙ ap (λ (t : Trace). record { names = h.basis.names; trace = setup_of t; history = events }) declared
      ∙ ap (λ (es : List Event). record { names = h.basis.names; trace = setup_of h.basis.trace; history = es }) all

  pub not_told : (why : PrintError) → IsNotPrinted (journal_of names setup events) why → IsNotTold h (Print why)
  not_told why not_printed =
      let here : IsNotPrinted (journal_in h) why = subst (λ (j : Journal). IsNotPrinted j why) same_journal not_printed in
      (here, λ is. false≢true (sym (subst (IsNotPrinted (journal_in h)) is here) ∙ kept.spelled.journal))
