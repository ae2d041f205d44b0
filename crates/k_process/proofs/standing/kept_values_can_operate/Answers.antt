use Rattle.k_process.proofs.CanDo.{can_operate, can_operate_with_kernel, can_operate_with_shared}
use Rattle.k_process.proofs.standing.kept_values_can_operate.Goals as goal

pub returns-clause-own : goal.returns-clause-own
returns-clause-own c = λ trace table h b op rest hk bk left settled lives items distinct inside. can_operate trace table h hk op rest left b bk settled lives items distinct inside

pub returns-clause-kernel : goal.returns-clause-kernel
returns-clause-kernel c =
    λ trace table h k b op rest hk kk bk left settled lives items distinct inside. can_operate_with_kernel trace table h hk op rest left b bk settled lives items k kk distinct inside

pub returns-clause-shared : goal.returns-clause-shared
returns-clause-shared c =
    λ trace table h s b op rest hk sk bk left settled lives items distinct inside. can_operate_with_shared trace table h hk op rest left b bk settled lives items s sk distinct inside
