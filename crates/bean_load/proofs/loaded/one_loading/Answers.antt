use Rattle.bean_load.proofs.OneLoading.{one_loading}
use Rattle.bean_load.proofs.loaded.one_loading.Goals as goal

pub returns : goal.returns
returns c = one_loading
