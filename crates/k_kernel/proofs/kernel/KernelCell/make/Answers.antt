use Rattle.std.proofs.Common.{◌≡◌, ◌+◌, length, sym, ap, ap₂, subst, ◌∙◌, arith}
use Rattle.k_cell.specs.k_space.Objects.{BodyValue, new_directory}
use Rattle.k_cell.specs.Changes.{with_body}
use Rattle.k_cell.specs.Holdings.{HoldingsValue, HasObjectRoom, fresh_holdings}
use Rattle.k_kernel.proofs.Shown.{opened_seen, serial_left}
use Rattle.k_kernel.proofs.kernel.KernelCell.make.Goals as goal

pub place-requires-clause-left : goal.place-requires-clause-left
place-requires-clause-left c =
    let count : c.len.result ≡ length c.args.setup.now.procs.items = omega (arith, c.len.ensures, c.args.setup.now.procs.ok.0) in
    let held : c.in_ok-holdings.holdings ≡ fresh_holdings 0 (record { bound = 1 + c.len.result + c.args.setup.now.shared; segments = 1 + c.len.result + c.args.setup.now.shared; objects = c.args.objects; exits = c.args.exits }) c.args.note = c.in_ok-holdings.ensures in
    let all = held ∙ ap (λ n. fresh_holdings 0 (record { bound = 1 + n + c.args.setup.now.shared; segments = 1 + n + c.args.setup.now.shared; objects = c.args.objects; exits = c.args.exits }) c.args.note) count in
    subst (λ (h : HoldingsValue). HasObjectRoom h 0) (sym all) (serial_left c.args.setup.now c.args.objects c.args.exits c.args.note c.requires.objects)

pub returns : goal.returns
returns c =
    let count : c.len.result ≡ length c.args.setup.now.procs.items = omega (arith, c.len.ensures, c.args.setup.now.procs.ok.0) in
    let held : c.in_ok-holdings.holdings ≡ fresh_holdings 0 (record { bound = 1 + c.len.result + c.args.setup.now.shared; segments = 1 + c.len.result + c.args.setup.now.shared; objects = c.args.objects; exits = c.args.exits }) c.args.note = c.in_ok-holdings.ensures in
    let all = held ∙ ap (λ n. fresh_holdings 0 (record { bound = 1 + n + c.args.setup.now.shared; segments = 1 + n + c.args.setup.now.shared; objects = c.args.objects; exits = c.args.exits }) c.args.note) count in
    let body : c.in_ok-directory.directory ≡ new_directory c.args.setup.now.dir_fields = c.in_ok-directory.ensures in
    c.place.ensures.placed
    ∙ ap₂ (λ (h : HoldingsValue) (b : BodyValue). record h { value = with_body 0 b h.value }) all body
    ∙ opened_seen c.args.setup.now c.args.objects c.args.exits c.args.note
