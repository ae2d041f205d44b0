use Rattle.k_process.proofs.Kept.{book_keeps, heap_keeps, kernel_keeps, left_now, shared_keeps}
use Rattle.k_process.proofs.keeping.steps_keep_what_the_locks_ask.Goals as goal

pub returns-clause-own : goal.returns-clause-own
returns-clause-own c =
    λ trace tie h w b l op rest event hk bk left lives s. (
      heap_keeps trace tie h w b l op rest event hk bk left lives s,
      book_keeps trace tie h w b l op rest event hk bk left lives s,
      left_now trace tie h w b l op rest event hk bk left lives s,
    )

pub returns-clause-kernel : goal.returns-clause-kernel
returns-clause-kernel c = λ trace tie h w k x b l op event kk bk s. kernel_keeps trace tie h w k x b l op event kk bk s

pub returns-clause-shared : goal.returns-clause-shared
returns-clause-shared c = λ trace tie h w s x b l op event sk bk st. shared_keeps trace tie h w s x b l op event sk bk st
