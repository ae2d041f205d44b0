-- A share stays at the end of a collection exactly where the process has a way into the shared heap, told by its cell and the book.
use Rattle.std.proofs.Common.{◌≡◌, ℕ, ◌==◌, ◌&&◌, ◌||◌, not, true, refl, sym, ap, ap₂, ◌∙◌, inl, inr, List, [], ◌∷◌, Option, Some, None, eq-eqb, ne_eqb, IsTrue}
use Rattle.std.specs.List.{list_any}
use Rattle.std.proofs.lemmas.Bool.{false≢true, cases_eq, or_cases, or_left, or_right, and_parts, and_from}
use Rattle.k_types.specs.declared.names.Name.{Name}
use Rattle.k_types.specs.Names.{heap_eq, name_eq}
use Rattle.k_types.specs.Trace.{Trace}
use Rattle.k_types.specs.State.{State, Object, Content, Refers, Holds, content_leads_to, refers, has_exit, scan_of}
use Rattle.k_types.specs.Owners.{owner_of, user, shared, phase_of}
use Rattle.k_types.specs.Reach.{reach_in}
use Rattle.k_types.specs.Replies.{is_populating}
use Rattle.k_types.specs.Effects.{share_stays, exit_stays, open_roots, register_lies_in, registers_of, lies_in}
use Rattle.k_types.specs.Cells.{part, book_part}
use Rattle.k_types.specs.Sound.{IsSound}
use Rattle.k_laws.specs.BookChanges.{leads_into, content_into, has_way_into}
use Rattle.k_types.proofs.Lists.{any_weaker, any_same}
use Rattle.k_types.proofs.NameTests.{name_eq-true, name_eq_refl, heap_eq-true, heap_eq_refl, heap_eq-same}
use Rattle.k_laws.proofs.Means.{reach_is, reached_refers}
use Rattle.k_laws.proofs.Surviving.{exit_into, into_exit, exits_after, leads_into as item_into}
use Rattle.k_laws.proofs.Turned.{some_element}
use Rattle.k_types.proofs.Tests.{same_test}

register_same : (trace : Trace) (st : State) (t : ℕ) (r : Option Name) → register_lies_in trace st t r ≡ leads_into (owner_of trace st) t r
register_same trace st t None = refl
register_same trace st t (Some n) = refl

module _ (trace : Trace) (st : State) (sound : IsSound trace st) (p : ℕ) (roots : List Name) (opened : scan_of st.scans (user p) ≡ Some roots) (t : ℕ) where
  live : List Object
  live = reach_in trace st (user p) (open_roots st (user p))

  content_leads : (n : Name) → owner_of trace st n.seg.0 ≡ shared t → (c : Content) → content_leads_to n c ≡ true → content_into (owner_of trace st) t c ≡ true
  content_leads n own (Refers None) e = absurd (false≢true e)
  content_leads n own (Refers (Some m)) e = heap_eq-same (owner_of trace st m.seg.0) (shared t) (ap (λ (k : Name). owner_of trace st k.seg.0) (name_eq-true m n e) ∙ own)
  content_leads n own (Holds k) e = absurd (false≢true e)

  leads_out : (content : List Content) → IsTrue (list_any (content_into (owner_of trace st) t) content) → (n : Name) × IsTrue (list_any (content_leads_to n) content) × (owner_of trace st n.seg.0 ≡ shared t)
  leads_out [] e = absurd (false≢true e)
  leads_out (c ∷ content) e =
      elim (or_cases (content_into (owner_of trace st) t c) (list_any (content_into (owner_of trace st) t) content) e) [
        | inl here ↦ let first = one c here in (first.0, or_left _ _ first.1, first.2)
        | inr there ↦ let rest = leads_out content there in (rest.0, or_right (content_leads_to rest.0 c) _ rest.1, rest.2)
      ]
    where
      one : (c : Content) → IsTrue (content_into (owner_of trace st) t c) → (n : Name) × IsTrue (content_leads_to n c) × (owner_of trace st n.seg.0 ≡ shared t)
      one (Refers None) e = absurd (false≢true e)
      one (Refers (Some n)) e = (n, name_eq_refl n, heap_eq-true (owner_of trace st n.seg.0) (shared t) e)
      one (Holds k) e = absurd (false≢true e)

  stays_if : (n : Name) → exit_stays trace st (user p) (record { heap = user p; target = n }) ≡ list_any (λ x. refers x n) live
  unfolding exit_stays live
  stays_if n = ap (λ b. not b || list_any (λ x. refers x n) live) (heap_eq_refl (user p))

  out_then : IsTrue (list_any (item_into trace st sound (user p) roots opened t) st.exits) → IsTrue (list_any (λ x. list_any (content_into (owner_of trace st) t) x.fields) live)
  out_then e =
      let n = exit_into trace st sound (user p) roots opened t e in
      let both = and_parts (has_exit st.exits (user p) n.0) (exit_stays trace st (user p) (record { heap = user p; target = n.0 })) (sym (exits_after trace st sound (user p) roots opened (user p) n.0) ∙ n.1) in
      any_weaker (λ x. refers x n.0) (λ x. list_any (content_into (owner_of trace st) t) x.fields) (λ x r. any_weaker (content_leads_to n.0) (content_into (owner_of trace st) t) (content_leads n.0 n.2) x.fields r) live
      (sym (stays_if n.0) ∙ both.1)

  item_then : IsTrue (list_any (λ x. list_any (content_into (owner_of trace st) t) x.fields) live) → IsTrue (list_any (item_into trace st sound (user p) roots opened t) st.exits)
  unfolding live
  item_then e =
      let x = some_element (λ x. list_any (content_into (owner_of trace st) t) x.fields) live e in
      let n = leads_out x.0.fields x.1 in
      let from = reached_refers trace st sound (user p) roots opened (open_roots st (user p)) x.0.name n.0 (x.2 (λ o. name_eq o.name x.0.name && refers o n.0) (and_from _ _ (name_eq_refl x.0.name) n.1)) in
      let listed = sound.guarded.listed x.0.name n.0 from.0 (ap₂ (λ a b. heap_eq a b) from.1 n.2) in
      into_exit trace st sound (user p) roots opened t n.0
      (exits_after trace st sound (user p) roots opened (user p) n.0 ∙ and_from _ _ (ap (λ h. has_exit st.exits h n.0) (sym from.1) ∙ listed) (stays_if n.0 ∙ x.2 (λ o. refers o n.0) n.1))
      n.2

  pub share_stays_so : (q : ℕ) → share_stays trace st (user p) (record { process = q; heap = t }) ≡ (not (q == p) || has_way_into (owner_of trace st) (book_part trace st) (part trace st (user p)) p t)
  unfolding share_stays book_part part live
  share_stays_so q = elim (cases_eq q p) [
    | inr ne ↦
        ap (λ b. not b || list_any (register_lies_in trace st t) (registers_of st q) || list_any (λ x. heap_eq x.heap (user p) && lies_in trace st t x.target && exit_stays trace st (user p) x) st.exits || is_populating (phase_of st.phases t) q) (ne_eqb p q (λ e. ne (sym e)))
        ∙ sym (ap (λ b. not b || has_way_into (owner_of trace st) (book_part trace st) (part trace st (user p)) p t) (ne_eqb q p ne))
    | inl e ↦
        ap (λ b. not b || list_any (register_lies_in trace st t) (registers_of st q) || list_any (λ x. heap_eq x.heap (user p) && lies_in trace st t x.target && exit_stays trace st (user p) x) st.exits || is_populating (phase_of st.phases t) q) (eq-eqb p q (sym e))
        ∙ ap (λ k. list_any (register_lies_in trace st t) (registers_of st k) || list_any (λ x. heap_eq x.heap (user p) && lies_in trace st t x.target && exit_stays trace st (user p) x) st.exits || is_populating (phase_of st.phases t) k) e
        ∙ ap₂ (λ a b. a || b || is_populating (phase_of st.phases t) p)
        (any_same (register_lies_in trace st t) (leads_into (owner_of trace st) t) (register_same trace st t) (registers_of st p))
        (same_test _ _ out_then item_then ∙ ap (list_any (λ x. list_any (content_into (owner_of trace st) t) x.fields)) (reach_is trace st (user p) (open_roots st (user p))))
        ∙ sym (ap (λ b. not b || has_way_into (owner_of trace st) (book_part trace st) (part trace st (user p)) p t) (eq-eqb q p e))
  ]
