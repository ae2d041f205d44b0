-- A kill of one process of a host by another, by what the call among all of them answers.
use Rattle.std.proofs.Common.{◌≡◌, ◌<◌, ℕ, sym, ap, ◌∙◌, subst, List, [], ◌++◌, append-nil, drop, take, length, length-set, slice_set, arith, Some, OnErr, IfErr, Result}
use Rattle.std.specs.Prelude.{IfOk}
use Rattle.std.proofs.lemmas.List.{drop_all, take_all}
use Rattle.k_types.specs.declared.event.Event.{Event}
use Rattle.k_types.specs.declared.names.Pid.{Pid}
use Rattle.k_types.specs.declared.op.Op.{Op}
use Rattle.k_book.specs.Books.{BookRecord}
use Rattle.k_cell.specs.Holdings.{HoldingsValue}
use Rattle.k_shared.specs.SharedHeaps.{SharedRecord}
use Rattle.k_ends.specs.k_guests.declared.guest.Guest.{Guest}
use Rattle.k_ends.specs.k_guests.Serving.{Basis}
use Rattle.k_ends.specs.HostError.{HostError}
use Rattle.k_host.proofs.Called.{host_of}
use Rattle.k_host.proofs.Killed.{kill_done, kill_kept, kill_refused, kill_same, killed_some, two_there}
use Rattle.k_host.specs.Calls.{HasOperatedIn}
use Rattle.k_host.specs.Hosts.{HostServes}
use Rattle.k_host.specs.Killing.{AreTwoAt, HasKilledAmong, killed_among}
use Rattle.k_host.specs.Refusals.{CanNotOperateIn, MayRefuse}

-- a list that is written over another one of the same length
written_whole : {A : Type 0} (xs ys : List A) (n : ℕ) → n ≡ length xs → length ys ≡ length xs → take n (ys ++ drop (length ys) xs) ≡ ys
written_whole xs ys n all same =
    let rest : drop (length ys) xs ≡ [] = drop_all (length ys) xs (omega (arith, same)) in
    ap (λ zs. take n (ys ++ zs)) rest ∙ ap (take n) (append-nil ys) ∙ take_all n ys (omega (arith, all, same))

-- what the call among all processes answers, whichever two are asked for
abbrev pub Answers : Basis → Op → ℕ → ℕ → List Guest → List Guest → HoldingsValue → HoldingsValue → BookRecord → BookRecord → Result Event HostError → Type 0
Answers basis op at target gs new k x b l r = (g t : Guest) → AreTwoAt gs at target g t → HasKilledAmong basis op at target g t gs new k x b l r

module _ (basis : Basis) (gs : List Guest) (k : HoldingsValue) (ss : List SharedRecord) (b : BookRecord) (serves : HostServes (host_of basis gs k ss b)) (op : Op) (pid : Pid) (at target : ℕ) (same : at ≡ pid.0) (ys : List Guest) (here : at < length ys) (ys_is : ys ≡ gs)
    (killed : killed_among (length gs) pid.0 op ≡ Some target) (zs new : List Guest) (zs_is : zs ≡ gs) (x : HoldingsValue) (l : BookRecord) (r : Result Event HostError) (answers : Answers basis op at target zs new k x b l r) (n : ℕ) (all : n ≡ length gs) where
  two : (g : Guest) × (t : Guest) × AreTwoAt gs at target g t
  two =
      let by = killed_some (length gs) pid.0 op target killed in
      two_there gs at target (subst (λ (us : List Guest). at < length us) ys_is here) by.1 (λ one. by.2 (one ∙ same))

  answered : HasKilledAmong basis op at target two.0 two.1 gs new k x b l r
  answered = subst (λ (us : List Guest). Answers basis op at target us new k x b l r) zs_is answers two.0 two.1 two.2

  abbrev after : List Guest
  after = take n (new ++ drop (length new) gs)

  after_is : after ≡ new
  after_is =
      written_whole gs new n all (ap length answered.guests_is ∙ length-set (slice_set gs at answered.own) target answered.other ∙ length-set gs at answered.own)

  pub host_kept : HostServes (host_of basis after x ss l)
  host_kept = subst (λ (us : List Guest). HostServes (host_of basis us x ss l)) (sym after_is) (kill_kept basis gs k ss b serves op at target two.0 two.1 two.2 new x l r answered)

  pub host_done : IfOk r (λ event. HasOperatedIn (host_of basis gs k ss b) (host_of basis after x ss l) pid op event)
  host_done =
      subst (λ (us : List Guest). IfOk r (λ event. HasOperatedIn (host_of basis gs k ss b) (host_of basis us x ss l) pid op event)) (sym after_is)
      (kill_done basis gs k ss b serves op at target two.0 two.1 two.2 pid same (killed_some (length gs) pid.0 op target killed).0 new x l r answered)

  pub host_same : OnErr r (host_of basis after x ss l ≡ host_of basis gs k ss b)
  host_same =
      subst (λ (us : List Guest). OnErr r (host_of basis us x ss l ≡ host_of basis gs k ss b)) (sym after_is)
      (kill_same basis gs k ss b serves op at target two.0 two.1 two.2 pid same (killed_some (length gs) pid.0 op target killed).0 new x l r answered)

  pub host_refused : IfErr r (λ why. MayRefuse (host_of basis gs k ss b) pid (CanNotOperateIn (host_of basis gs k ss b) op) why)
  host_refused = kill_refused basis gs k ss b serves op at target two.0 two.1 two.2 pid same (killed_some (length gs) pid.0 op target killed).0 new x l r answered
