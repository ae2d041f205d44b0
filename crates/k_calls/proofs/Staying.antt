-- What serves goes on serving where one process or one shared heap has changed with the book.
use Rattle.std.proofs.Common.{◌≡◌, ℕ, sym, ap, ◌∙◌, subst, List, set, length-set, Some, slice_get, inl, inr}
use Rattle.atomic_table.specs.Seated.{TableId}
use Rattle.k_types.specs.declared.names.Pid.{Pid}
use Rattle.k_types.specs.declared.names.SharedId.{SharedId}
use Rattle.k_cell.specs.Holdings.{HoldingsValue}
use Rattle.k_shared.specs.SharedHeaps.{SharedRecord}
use Rattle.k_operate.proofs.Written.{get_set_cases}
use Rattle.k_guests.specs.declared.guest.Guest.{Guest}
use Rattle.k_guests.specs.Serving.{Basis, GuestServes, GuestsServe, HeapsServe, KernelServes, SharedServes}

module _ (basis : Basis) (old tie : TableId) (same : tie ≡ old) where
  pub guests_set : (gs : List Guest) (k : ℕ) (g h : Guest) → GuestsServe basis old gs → slice_get gs k ≡ Some g → GuestServes basis tie h → h.cell.pid ≡ g.cell.pid → GuestsServe basis tie (set gs k h)
  guests_set gs k g h serve at serves pid = record {
    count = length-set gs k h ∙ serve.count;
    each = λ j x found. elim (get_set_cases gs k j h x found) [
      | inl here ↦ subst (GuestServes basis tie) here.1 serves
      | inr there ↦ subst (λ t. GuestServes basis t x) (sym same) (serve.each j x there)
    ];
    placed = λ j x found. elim (get_set_cases gs k j h x found) [
      | inl here ↦ ap (λ (y : Guest). y.cell.pid.0) (sym here.1) ∙ ap (λ (p : Pid). p.0) pid ∙ serve.placed k g at ∙ sym here.0
      | inr there ↦ serve.placed j x there
    ];
  }

  pub heaps_set : (ss : List SharedRecord) (k : ℕ) (s t : SharedRecord) → HeapsServe basis old ss → slice_get ss k ≡ Some s → SharedServes basis tie t → t.id ≡ s.id → HeapsServe basis tie (set ss k t)
  heaps_set ss k s t serve at serves id = record {
    count = length-set ss k t ∙ serve.count;
    each = λ j x found. elim (get_set_cases ss k j t x found) [
      | inl here ↦ subst (SharedServes basis tie) here.1 serves
      | inr there ↦ subst (λ n. SharedServes basis n x) (sym same) (serve.each j x there)
    ];
    placed = λ j x found. elim (get_set_cases ss k j t x found) [
      | inl here ↦ ap (λ (y : SharedRecord). y.id.0) (sym here.1) ∙ ap (λ (i : SharedId). i.0) id ∙ serve.placed k s at ∙ sym here.0
      | inr there ↦ serve.placed j x there
    ];
  }

  pub guests_stay : (gs : List Guest) → GuestsServe basis old gs → GuestsServe basis tie gs
  guests_stay gs serve = subst (λ t. GuestsServe basis t gs) (sym same) serve

  pub heaps_stay : (ss : List SharedRecord) → HeapsServe basis old ss → HeapsServe basis tie ss
  heaps_stay ss serve = subst (λ t. HeapsServe basis t ss) (sym same) serve

  pub kernel_stays : (k : HoldingsValue) → KernelServes basis old k → KernelServes basis tie k
  kernel_stays k serve = subst (λ t. KernelServes basis t k) (sym same) serve
