-- Of a call or a log the kind of a message decides whether it is on the topic.
use Rattle.std.proofs.Common.{◌≡◌, refl}
use Rattle.rk_message.specs.declared.message.Body.{Body}
use Rattle.rk_message.specs.declared.message.Body.TheVariants as bodies
use Rattle.rk_message.specs.Kinds.{kind_of}
use Rattle.rk_settle.specs.Topics.{is_of_call, is_of_log, is_on}
use Rattle.rk_settle.specs.declared.topic.Topic.TheVariants as topics

pub call_by_kind : (body : Body) → is_of_call (kind_of body) ≡ is_on topics.Call body
call_by_kind (bodies.Request _) = refl
call_by_kind _ = refl

pub log_by_kind : (body : Body) → is_of_log (kind_of body) ≡ is_on topics.Log body
log_by_kind (bodies.Append _) = refl
log_by_kind _ = refl
