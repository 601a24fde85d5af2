-- Lists, chains and nodes may go to another thread. (Said once, since a search would go through their boxes each time.)
use denote.Param.Send.{IsSend, sendable, view_send}
use denote.Param.SendFields.{declared_send}
use Rattle.std.proofs.Crossing.{crosses as std_crosses}
use Rattle.mb_msg.proofs.system.SysMsg.TheSendSync as message
use Rattle.mb_syslist.specs.contracts.link.Link as link
use Rattle.mb_syslist.specs.contracts.list.SysList as list
use Rattle.mb_syslist.specs.contracts.list.SysList.TheInside as list_inside
use Rattle.mb_syslist.specs.contracts.chain.Chain as chain
use Rattle.mb_syslist.specs.contracts.chain.Chain.TheInside as chain_inside
use Rattle.mb_syslist.specs.contracts.node.Node as node
use Rattle.mb_syslist.specs.contracts.node.Node.TheInside as node_inside
use Rattle.mb_syslist.proofs.link.Link.TheLaws.TheKnot.{crosses}

pub link_send : IsSend link.the_row
link_send = search (sendable, std_crosses, message.the_field_send, crosses) depth 20

pub list_send : IsSend list.the_row
list_send = view_send _ _ _ _ _ (declared_send list_inside.the_type (link_send, (search sendable, (search sendable, (search sendable, tt)))))

pub chain_send : IsSend chain.the_row
chain_send = view_send _ _ _ _ _ (declared_send chain_inside.the_type (link_send, (search sendable, tt)))

pub node_send : IsSend node.the_row
node_send = view_send _ _ _ _ _
    (declared_send node_inside.the_type (search (sendable, std_crosses, message.the_field_send, crosses) depth 20, tt))
